-- After a step on the list, each node is still at its position, and the same dummies are linked.
use Rattle.std.proofs.Common.{◌≡◌, ℕ, ◌||◌, inl, inr, List, [], ◌∷◌, Bool, true, false, cond, map, refl, sym, ◌∙◌, ap, subst}
use Rattle.map_ops.specs.Vocabulary.{AllByRecursion, Directory, Dummy, IsLinked, Kind, Listing, NodeAt, Regular, SortKey, has_dummy}
use Rattle.map_ops.specs.Vocabulary.{limit_of, linked_after, marked_at, range_with_len, regular_at, sought, written_at}
use Rattle.map_ops.proofs.Vocabulary.{each_linked}
use Rattle.node_list.specs.Sound.{AllPlain}
use Rattle.node_list.proofs.OrderLemmas.{each_changed}
use Rattle.list_steps.specs.Steps.{without_first_marked}
use Rattle.bucket_table.specs.Dummies.{IsKeyedNode, is_dummy_of}
use Rattle.bucket_table.proofs.DummyLemmas.{each_sought, has_dummy-linked_after, has_dummy-changed_at, either}
use Rattle.map_ops.specs.Lists.{KeepsDummies}
use Rattle.map_ops.specs.TableAt.{linked_of, table_of}
use Rattle.map_ops.specs.Sound.{Belong, IsEvenDummy}

pub belong_sought : (nodes : List NodeAt) (from : ℕ) (bound : SortKey) → Belong nodes → Belong (sought nodes from bound)
belong_sought nodes from bound belong = record {
  keyed = each_sought IsKeyedNode nodes from bound belong.keyed;
  even = each_sought IsEvenDummy nodes from bound belong.even;
}

pub belong_linked : (nodes : List NodeAt) (pred : ℕ) (x : NodeAt) (key : ℕ) → Belong nodes → x.kind ≡ Regular → x.at ≡ regular_at key → Belong (linked_after nodes pred x)
belong_linked nodes pred x key belong kind place = record {
  keyed = each_linked IsKeyedNode nodes pred x (λ is. let own : key ≡ x.at.key = sym (ap (λ (at : SortKey). at.key) place) in place ∙ ap regular_at own) belong.keyed;
  even = each_linked IsEvenDummy nodes pred x (λ dummy. let both : Regular ≡ Dummy = sym kind ∙ dummy in absurd (cc)) belong.even;
}

pub belong_marked : (nodes : List NodeAt) (place : ℕ) → Belong nodes → Belong (marked_at nodes place)
belong_marked nodes place belong = record {
  keyed = each_changed IsKeyedNode nodes place (λ n. record n { marked = true }) (λ n is own. own) belong.keyed;
  even = each_changed IsEvenDummy nodes place (λ n. record n { marked = true }) (λ n is own. own) belong.even;
}

pub belong_written : (nodes : List NodeAt) (place value : ℕ) → Belong nodes → Belong (written_at nodes place value)
belong_written nodes place value belong = record {
  keyed = each_changed IsKeyedNode nodes place (λ n. record n { value = value }) (λ n is own. own) belong.keyed;
  even = each_changed IsEvenDummy nodes place (λ n. record n { value = value }) (λ n is own. own) belong.even;
}

swept_past : (n : NodeAt) (rest : List NodeAt) → n.marked ≡ false → without_first_marked (n ∷ rest) ≡ n ∷ without_first_marked rest
unfolding without_first_marked
swept_past n rest unmarked = ap (λ b. cond b rest (n ∷ without_first_marked rest)) unmarked

each_swept : (P : NodeAt → Type 0) (nodes : List NodeAt) → AllByRecursion P nodes → AllByRecursion P (without_first_marked nodes)
unfolding without_first_marked
each_swept P [] each = tt
each_swept P (n ∷ rest) each = elim (either n.marked) [
  | inl marked ↦ rw marked each.1
  | inr unmarked ↦ subst (AllByRecursion P) (sym (swept_past n rest unmarked)) (each.0, each_swept P rest each.1)
]

pub belong_swept : (nodes : List NodeAt) → Belong nodes → Belong (without_first_marked nodes)
belong_swept nodes belong = record { keyed = each_swept IsKeyedNode nodes belong.keyed; even = each_swept IsEvenDummy nodes belong.even }

pub has_dummy-marked : (nodes : List NodeAt) (place bucket : ℕ) → has_dummy (marked_at nodes place) bucket ≡ has_dummy nodes bucket
has_dummy-marked nodes place bucket = has_dummy-changed_at nodes place (λ n. record n { marked = true }) bucket (λ n. refl)

pub has_dummy-written : (nodes : List NodeAt) (place value bucket : ℕ) → has_dummy (written_at nodes place value) bucket ≡ has_dummy nodes bucket
has_dummy-written nodes place value bucket = has_dummy-changed_at nodes place (λ n. record n { value = value }) bucket (λ n. refl)

regular_no_dummy : (x : NodeAt) (bucket : ℕ) → x.kind ≡ Regular → is_dummy_of bucket x ≡ false
regular_no_dummy x bucket kind = rw kind refl

pub has_dummy-regular : (nodes : List NodeAt) (pred : ℕ) (x : NodeAt) (bucket : ℕ) → IsLinked nodes pred → x.kind ≡ Regular → has_dummy (linked_after nodes pred x) bucket ≡ has_dummy nodes bucket
has_dummy-regular nodes pred x bucket linked kind = has_dummy-linked_after nodes pred x bucket linked ∙ ap (λ b. b || has_dummy nodes bucket) (regular_no_dummy x bucket kind)

pub has_dummy-swept : (nodes : List NodeAt) (bucket : ℕ) → AllPlain nodes → has_dummy (without_first_marked nodes) bucket ≡ has_dummy nodes bucket
unfolding has_dummy without_first_marked
has_dummy-swept [] bucket plain = refl
has_dummy-swept (n ∷ rest) bucket plain = elim (either n.marked) [
  | inl marked ↦ rw marked (sym (ap (λ b. b || has_dummy rest bucket) (marked_no_dummy n.kind refl marked)))
  | inr unmarked ↦ rw unmarked (ap (λ b. is_dummy_of bucket n || b) (has_dummy-swept rest bucket plain.1))
]
  where
    marked_no_dummy : (kind : Kind) → n.kind ≡ kind → n.marked ≡ true → is_dummy_of bucket n ≡ false
    marked_no_dummy Dummy is marked = absurd (cc (plain.0 is))
    marked_no_dummy Regular is marked = regular_no_dummy n bucket is

-- If the same buckets have linked dummies, `linked_of` is unchanged.
pub linked_same : (old new : Listing) (buckets : Directory) → KeepsDummies old new → linked_of (table_of new buckets) ≡ linked_of (table_of old buckets)
linked_same old new buckets same = ap (λ (f : ℕ → Bool). map f (range_with_len 0 (limit_of buckets))) (λ i bucket. same bucket i)
