-- A new table.
use Rattle.std.proofs.Common.{◌≡◌, ℕ, ◌+◌, ◌-◌, ◌<◌, ◌≤◌, ◌^◌, ◌||◌, inl, inr, List, [], ◌∷◌, Option, Some, None, Bool, true, false, map}
use Rattle.std.proofs.Common.{length, refl, sym, ◌∙◌, ap, subst, arith, replicate}
use Rattle.std.specs.Prelude.{is_some}
use Rattle.map_ops.specs.Vocabulary.{Directory, Idle, Listing, NodeAt, SortKey, dummy_at, first_dummy, has_dummy, out_at, pairs}
use Rattle.map_ops.specs.Vocabulary.{range_with_len}
use Rattle.map_ops.proofs.Vocabulary.{reversed_even}
use Prim.Native.Nat.{zero, suc}
use Rattle.std.proofs.lemmas.List.{length-replicate}
use Rattle.split_key.specs.Sort.{is_same}
use Rattle.split_key.proofs.SplitLemmas.{same_from_reversed}
use Rattle.split_key.proofs.SortLemmas.{cases_same, is_same_from}
use Rattle.bucket_table.specs.Directory as directories
use Rattle.bucket_table.proofs.DummyLemmas.{keyed_dummy}
use Rattle.map_ops.specs.Sound.{Belong}
use Rattle.map_ops.specs.TableAt.{help_of, map_of, table_of, IsNew}

first_there : (head stamp : ℕ) → has_dummy (first_dummy head stamp ∷ []) 0 ≡ true
unfolding has_dummy
first_there head stamp = ap (λ b. b || false) (is_same_from (dummy_at 0) (dummy_at 0) refl)

others_not : (head stamp bucket : ℕ) → 0 < bucket → bucket < 2 ^ 32 → has_dummy (first_dummy head stamp ∷ []) bucket ≡ false
unfolding has_dummy
others_not head stamp bucket above small = ap (λ b. b || false) apart
  where
    apart : is_same (dummy_at 0) (dummy_at bucket) ≡ false
    apart = elim (cases_same (dummy_at 0) (dummy_at bucket)) [
      | inl same ↦ let zero : bucket ≡ 0 = same_from_reversed bucket 0 (omega (arith, small)) (omega arith) (sym (ap (λ (at : SortKey). at.split) same.1)) in absurd (omega (arith, zero, above))
      | inr other ↦ other.0
    ]

no_others : (head stamp start n : ℕ) → 0 < start → start + n ≤ 2 ^ 32 → map (has_dummy (first_dummy head stamp ∷ [])) (range_with_len start n) ≡ replicate n false
no_others head stamp start zero above small = refl
no_others head stamp start (suc n) above small = λ i. others_not head stamp start above (omega (arith, small)) i ∷ no_others head stamp (start + 1) n (omega (arith, above)) (omega (arith, small)) i

map-replicate : {A B : Type 0} (f : A → B) (n : ℕ) (x : A) → map f (replicate n x) ≡ replicate n (f x)
map-replicate f zero x = refl
map-replicate f (suc n) x = ap (λ rest. f x ∷ rest) (map-replicate f n x)

pairs_first : (head stamp : ℕ) → pairs (first_dummy head stamp ∷ []) ≡ []
unfolding pairs
pairs_first head stamp = refl

linked_first : (head stamp largest : ℕ) → 2 ≤ largest → largest < 2 ^ 32 → map (has_dummy (first_dummy head stamp ∷ [])) (range_with_len 0 largest) ≡ true ∷ replicate (largest - 1) false
linked_first head stamp largest least most =
    let some : largest ≡ suc (largest - 1) = omega (arith, least) in
    ap (λ (n : ℕ). map (has_dummy (first_dummy head stamp ∷ [])) (range_with_len 0 n)) some
    ∙ (λ i. first_there head stamp i ∷ no_others head stamp (0 + 1) (largest - 1) (omega arith) (omega (arith, least, most)) i)

pub is_new : (l : Listing) (d : Directory) (largest helpers : ℕ) → l.nodes ≡ first_dummy l.head 0 ∷ [] → ((place : ℕ) → out_at l place ≡ None) → l.changes ≡ 0 → l.last ≡ 0 → d ≡ directories.beginning largest helpers l.head → 2 ≤ largest → largest < 2 ^ 32 → IsNew (table_of l d) largest helpers
is_new l d largest helpers nodes_is none changes last d_is least most =
    let same : pairs l.nodes ≡ [] = ap pairs nodes_is ∙ pairs_first l.head 0 in
    let limit : length (Some l.head ∷ replicate (largest - 1) None) ≡ largest = let rest = length-replicate {A = Option ℕ} (largest - 1) None in omega (arith, rest, least) in
    subst (λ (b : Directory). IsNew (table_of l b) largest helpers) (sym d_is) (record {
      nodes_are = nodes_is;
      regular_is = same;
      content_is = ap map_of same;
      size_is = refl;
      largest_is = limit;
      stored_is = ap (λ (rest : List Bool). true ∷ rest) (map-replicate {A = Option ℕ} is_some (largest - 1) None);
      linked_is = ap (λ (n : ℕ). map (has_dummy l.nodes) (range_with_len 0 n)) limit ∙ ap (λ (nodes : List NodeAt). map (has_dummy nodes) (range_with_len 0 largest)) nodes_is ∙ linked_first l.head 0 largest least most;
      helps_is = map-replicate help_of helpers Idle;
      changes_is = changes;
      last_is = last;
      none_out = none;
    })

-- The one node of a new list is at its position.
pub first_belongs : (l : Listing) (head : ℕ) → l.nodes ≡ first_dummy head 0 ∷ [] → Belong l.nodes
first_belongs l head is = subst Belong (sym is) (record {
  keyed = (keyed_dummy (first_dummy head 0) refl, tt);
  even = ((λ dummy. reversed_even 0 (omega arith)), tt);
})
