-- The map made of a list of pairs: the value of each key, and the map's rows.
use Rattle.std.proofs.Common.{◌≡◌, ℕ, ◌==◌, false, cond, List, [], ◌∷◌, length, Option, None, Some, sym, refl, ◌∙◌, ap, subst, IsPermutation, is_eq, is_some, nat_cmp, nat_eq, Ordering, Less, Equal, Greater}
use Rattle.std.specs.FinMap.Entries.{by_order, find, put}
use Rattle.std.specs.List.{AllByRecursion, IsDistinct}
use Rattle.std.specs.Map.{keys_of, lookup}
use Rattle.std.proofs.lemmas.Bool.{false≢true, cases_eq, eq-eqb, ne_eqb}
use Rattle.std.proofs.lemmas.List.Sorted.{IsPermutation-refl, IsPermutation-sym, IsPermutation-trans, IsPermutation-cons, IsPermutation-middle, length_permutation}
use Rattle.std.proofs.lemmas.Map.Keys.{IsDistinct-head, IsDistinct-tail}
use mathlib.Core.Logic.{inl, inr}
use Rattle.txn_words.specs.Map.{get, set_at}
use Rattle.txn_words.proofs.Maps.{get-insert, same_map, get-set_at}
use Rattle.stripe_shard.specs.MapAt.{map_of}

abbrev Pair : Type 0
Pair = ℕ × ℕ

-- In the map made of a list of pairs, a key has the value in the first pair with this key.
pub get-map_of : (pairs : List Pair) (q : ℕ) → get (map_of pairs) q ≡ lookup (nat_eq q) pairs
get-map_of [] q = refl
get-map_of (pair ∷ pairs) q = get-insert (map_of pairs) pair.0 pair.1 q ∙ ap (cond (q == pair.0) (Some pair.1)) (get-map_of pairs q)

same_eqb : (a b : ℕ) → (a == b) ≡ (b == a)
same_eqb a b = elim (cases_eq a b) [
  | inl same ↦ eq-eqb a b same ∙ sym (eq-eqb b a (sym same))
  | inr other ↦ ne_eqb a b other ∙ sym (ne_eqb b a (λ e. other (sym e)))
]

-- Suppose that `fs` gives `key` the value `value`, and gives each other key the value that `es`
-- gives it. Then the map of `fs` is the map of `es` with `key` set to `value`.
pub set_lookups : (es fs : List Pair) (key : ℕ) (value : Option ℕ) → ((q : ℕ) → lookup (nat_eq q) fs ≡ cond (nat_eq key q) value (lookup (nat_eq q) es)) → map_of fs ≡ set_at (map_of es) key value
set_lookups es fs key value sets = same_map (map_of fs) (set_at (map_of es) key value) (λ q.
    get-map_of fs q ∙ sets q ∙ ap (λ b. cond b value (lookup (nat_eq q) es)) (same_eqb key q)
    ∙ ap (cond (q == key) value) (sym (get-map_of es q)) ∙ sym (get-set_at (map_of es) key value q))

-- If a key is in none of the pairs, it has no value in the map made of the pairs.
none_there : (key : ℕ) (pairs : List Pair) → AllByRecursion (λ other. nat_eq key other ≡ false) (keys_of pairs) → get (map_of pairs) key ≡ None
none_there key [] others = refl
none_there key (pair ∷ pairs) others = get-insert (map_of pairs) pair.0 pair.1 key ∙ ap (λ b. cond b (Some pair.1) (get (map_of pairs) key)) others.0 ∙ none_there key pairs others.1

put_fresh : (key v : ℕ) (rows : List Pair) → find nat_cmp key rows ≡ None → IsPermutation ((key, v) ∷ rows) (put nat_cmp key v rows)
put_fresh key v [] none = IsPermutation-refl ((key, v) ∷ [])
put_fresh key v (row ∷ rows) none = from (nat_cmp key row.0) refl (λ later. put_fresh key v rows later)
  where
    from : (o : Ordering) → nat_cmp key row.0 ≡ o → (find nat_cmp key rows ≡ None → IsPermutation ((key, v) ∷ rows) (put nat_cmp key v rows)) → IsPermutation ((key, v) ∷ row ∷ rows) (put nat_cmp key v (row ∷ rows))
    from Less is deep = subst (λ r. IsPermutation ((key, v) ∷ row ∷ rows) (by_order r ((key, v) ∷ row ∷ rows) ((row.0, v) ∷ rows) (row ∷ put nat_cmp key v rows))) (sym is) (IsPermutation-refl _)
    from Equal is deep = absurd (false≢true (ap is_some (sym none ∙ ap (λ r. cond (is_eq r) (Some row.1) (find nat_cmp key rows)) is)))
    from Greater is deep = let later : find nat_cmp key rows ≡ None = sym (ap (λ r. cond (is_eq r) (Some row.1) (find nat_cmp key rows)) is) ∙ none in
        subst (λ r. IsPermutation ((key, v) ∷ row ∷ rows) (by_order r ((key, v) ∷ row ∷ rows) ((row.0, v) ∷ rows) (row ∷ put nat_cmp key v rows))) (sym is)
        (IsPermutation-trans _ (row ∷ (key, v) ∷ rows) _ (IsPermutation-sym _ _ (IsPermutation-middle (row ∷ []) (key, v) rows)) (IsPermutation-cons row _ _ (deep later)))

-- If the pairs have different keys, the rows of their map are the pairs in some order.
pub rows_map_of : (pairs : List Pair) → IsDistinct nat_eq (keys_of pairs) → IsPermutation (map_of pairs).rows pairs
rows_map_of [] distinct = IsPermutation-refl []
rows_map_of (pair ∷ pairs) distinct =
    let rest = rows_map_of pairs (IsDistinct-tail nat_eq pair.0 (keys_of pairs) distinct) in
    let none = none_there pair.0 pairs (IsDistinct-head nat_eq pair.0 (keys_of pairs) distinct) in
    IsPermutation-trans _ (pair ∷ (map_of pairs).rows) _
    (IsPermutation-sym _ _ (put_fresh pair.0 pair.1 (map_of pairs).rows none))
    (IsPermutation-cons pair _ _ rest)

pub count_map_of : (pairs : List Pair) → IsDistinct nat_eq (keys_of pairs) → length pairs ≡ length (map_of pairs).rows
count_map_of pairs distinct = length_permutation (map_of pairs).rows pairs (rows_map_of pairs distinct)
