-- Shows which buckets have a linked dummy after a change of the list, because a dummy is never
-- marked, and so never unlinked.
use Rattle.std.proofs.Common.{◌≡◌, ◌≢◌, ℕ, ◌<◌, ◌^◌, ◌⊎◌, inl, inr, List, [], ◌∷◌, Some, Bool, true, false, ◌==◌, ◌&&◌, ◌||◌, not, refl, sym, ◌∙◌, ap, subst, arith}
use Rattle.std.specs.List.{AllByRecursion}
use Rattle.std.proofs.lemmas.Bool.Decides.{eqb_tells}
use Rattle.node_list.specs.declared.node.Kind.{Kind}
use Rattle.node_list.specs.declared.node.Kind.TheVariants.{Dummy, Regular}
use Rattle.node_list.specs.Nodes.{NodeAt, IsLinked, changed_at, node_of, linked_after, is_regular}
use Rattle.node_list.specs.Sound.{AllPlain}
use Rattle.node_list.proofs.OrderLemmas.{some-injective, some-none}
use Rattle.list_steps.specs.Seek.{cleaned, sought}
use Rattle.list_steps.specs.Steps.{without_first_marked}
use Rattle.list_steps.proofs.SeekLemmas.{cleaned_marked, cleaned_passed, cleaned_stopped}
use Rattle.split_key.specs.declared.sort.SortKey.{SortKey}
use Rattle.split_key.specs.Split.{reversed, split}
use Rattle.split_key.specs.Sort.{dummy_at, is_before}
use Rattle.split_key.proofs.SplitLemmas.{same_from_reversed, split_odd, reversed_even}
use Rattle.split_key.proofs.SortLemmas.{cases_before, cases_same}
use Rattle.bucket_table.specs.Dummies.{IsKeyedNode, dummy_node, has_dummy, is_dummy_of}

pub either : (b : Bool) → (b ≡ true) ⊎ (b ≡ false)
either true = inl refl
either false = inr refl

-- If a statement is true for all nodes, it is true for the nodes that remain after a seek
-- (`cleaned`).
each_cleaned : (P : NodeAt → Type 0) (at : SortKey) (nodes : List NodeAt) → AllByRecursion P nodes → AllByRecursion P (cleaned at nodes)
unfolding cleaned
each_cleaned P at [] each = tt
each_cleaned P at (n ∷ rest) each =
    let Q : List NodeAt → Type 0 = AllByRecursion P in
    let later = each_cleaned P at rest each.1 in
    elim (either n.marked) [
      | inl marked ↦ subst Q (sym (cleaned_marked n rest at marked)) later
      | inr unmarked ↦ elim (cases_before n.at at) [
        | inl below ↦ subst Q (sym (cleaned_passed n rest at unmarked below)) (each.0, later)
        | inr beyond ↦ subst Q (sym (cleaned_stopped n rest at unmarked beyond)) each
      ]
    ]

pub each_sought : (P : NodeAt → Type 0) (nodes : List NodeAt) (from : ℕ) (at : SortKey) → AllByRecursion P nodes → AllByRecursion P (sought nodes from at)
unfolding sought
each_sought P [] from at each = tt
each_sought P (n ∷ rest) from at each = elim (eqb_tells n.place from) [
  | inl here ↦ rw here.0 (each.0, each_cleaned P at rest each.1)
  | inr past ↦ rw past.0 (each.0, each_sought P rest from at each.1)
]

-- Lemmas on whether a node is the dummy of a bucket.
pub is_dummy_true : (bucket : ℕ) (n : NodeAt) → n.kind ≡ Dummy → n.at ≡ dummy_at bucket → is_dummy_of bucket n ≡ true
is_dummy_true bucket n dummy same = elim (cases_same n.at (dummy_at bucket)) [
  | inl here ↦ rw (dummy, here.0) refl
  | inr apart ↦ absurd (apart.1 same)
]

is_dummy_other : (bucket : ℕ) (n : NodeAt) → n.at ≢ dummy_at bucket → is_dummy_of bucket n ≡ false
is_dummy_other bucket n other = elim (cases_same n.at (dummy_at bucket)) [
  | inl here ↦ absurd (other here.1)
  | inr apart ↦ rw apart.0 (and_false (not (is_regular n.kind)))
]
  where
    and_false : (b : Bool) → (b && false) ≡ false
    and_false true = refl
    and_false false = refl

pub is_dummy_regular : (bucket : ℕ) (n : NodeAt) → (n.kind ≡ Dummy → ⊥) → is_dummy_of bucket n ≡ false
is_dummy_regular bucket n regular = go n.kind refl
  where
    go : (kind : Kind) → n.kind ≡ kind → is_dummy_of bucket n ≡ false
    go Dummy is = absurd (regular is)
    go Regular is = rw is refl

-- If the dummy of a bucket is linked, `has_dummy` is true for the bucket.
pub dummy_had : (nodes : List NodeAt) (place bucket : ℕ) (n : NodeAt) → node_of nodes place ≡ Some n → n.kind ≡ Dummy → n.at ≡ dummy_at bucket → has_dummy nodes bucket ≡ true
unfolding has_dummy node_of
dummy_had [] place bucket n is dummy same = absurd (some-none (sym is))
dummy_had (m ∷ rest) place bucket n is dummy same = elim (eqb_tells m.place place) [
  | inl here ↦
      let m_is : m ≡ n = some-injective (rw here.0 at is) in
      rw (is_dummy_true bucket m (ap (λ (v : NodeAt). v.kind) m_is ∙ dummy) (ap (λ (v : NodeAt). v.at) m_is ∙ same)) refl
  | inr past ↦ rw (dummy_had rest place bucket n (rw past.0 at is) dummy same) (or_true (is_dummy_of bucket m))
]
  where
    or_true : (b : Bool) → (b || true) ≡ true
    or_true true = refl
    or_true false = refl

-- If no node has the sort key of a bucket's dummy, `has_dummy` is false for the bucket.
pub no_dummy : (nodes : List NodeAt) (bucket : ℕ) → AllByRecursion (λ n. n.at ≢ dummy_at bucket) nodes → has_dummy nodes bucket ≡ false
unfolding has_dummy
no_dummy [] bucket each = refl
no_dummy (n ∷ rest) bucket each = rw (is_dummy_other bucket n each.0) (no_dummy rest bucket each.1)

-- If one more node is linked, `has_dummy` is true for a bucket exactly if it was true before or the
-- new node is the bucket's dummy.
pub has_dummy-linked_after : (nodes : List NodeAt) (pred : ℕ) (x : NodeAt) (bucket : ℕ) → IsLinked nodes pred → has_dummy (linked_after nodes pred x) bucket ≡ (is_dummy_of bucket x || has_dummy nodes bucket)
unfolding has_dummy linked_after IsLinked
has_dummy-linked_after [] pred x bucket linked = absurd linked
has_dummy-linked_after (n ∷ rest) pred x bucket linked = elim (eqb_tells n.place pred) [
  | inl here ↦ rw here.0 (swapped (is_dummy_of bucket n) (is_dummy_of bucket x) (has_dummy rest bucket))
  | inr past ↦ elim linked [
    | inl here ↦ absurd (past.1 here)
    | inr later ↦ rw (past.0, has_dummy-linked_after rest pred x bucket later) (swapped (is_dummy_of bucket n) (is_dummy_of bucket x) (has_dummy rest bucket))
  ]
]
  where
    swapped : (a b c : Bool) → (a || (b || c)) ≡ (b || (a || c))
    swapped true true c = refl
    swapped true false c = refl
    swapped false true c = refl
    swapped false false c = refl

-- A seek unlinks no dummy.
has_dummy-cleaned : (at : SortKey) (nodes : List NodeAt) (bucket : ℕ) → AllPlain nodes → has_dummy (cleaned at nodes) bucket ≡ has_dummy nodes bucket
unfolding has_dummy cleaned
has_dummy-cleaned at [] bucket plain = refl
has_dummy-cleaned at (n ∷ rest) bucket plain =
    let later = has_dummy-cleaned at rest bucket plain.1 in
    elim (either n.marked) [
      | inl marked ↦
          let regular = is_dummy_regular bucket n (λ dummy. cc (plain.0 dummy)) in
          rw (marked, regular) later
      | inr unmarked ↦ elim (either (is_before n.at at)) [
        | inl below ↦ rw (unmarked, below) (ap (λ b. is_dummy_of bucket n || b) later)
        | inr beyond ↦ rw (unmarked, beyond) refl
      ]
    ]

pub has_dummy-sought : (nodes : List NodeAt) (from : ℕ) (at : SortKey) (bucket : ℕ) → AllPlain nodes → has_dummy (sought nodes from at) bucket ≡ has_dummy nodes bucket
unfolding has_dummy sought
has_dummy-sought [] from at bucket plain = refl
has_dummy-sought (n ∷ rest) from at bucket plain = elim (eqb_tells n.place from) [
  | inl here ↦ rw here.0 (ap (λ b. is_dummy_of bucket n || b) (has_dummy-cleaned at rest bucket plain.1))
  | inr past ↦ rw past.0 (ap (λ b. is_dummy_of bucket n || b) (has_dummy-sought rest from at bucket plain.1))
]

-- For a new dummy, `is_dummy_of` is true for the dummy's own bucket and false for every other
-- bucket.
pub is_dummy_of-dummy_node : (place bucket stamp other : ℕ) → bucket < 2 ^ 32 → other < 2 ^ 32 → is_dummy_of other (dummy_node place bucket stamp) ≡ (bucket == other)
is_dummy_of-dummy_node place bucket stamp other fits other_fits = elim (eqb_tells bucket other) [
  | inl same ↦ rw same.0 (is_dummy_true other (dummy_node place bucket stamp) refl (ap dummy_at same.1))
  | inr apart ↦ rw apart.0 (is_dummy_other other (dummy_node place bucket stamp) (λ same. apart.1 (same_from_reversed bucket other (omega arith) (omega arith) (ap (λ (at : SortKey). at.split) same))))
]

-- If `IsKeyedNode` holds for a node, and the node has the sort key of a bucket's dummy, the node is
-- a dummy.
pub dummy_there : (n : NodeAt) (bucket : ℕ) → bucket < 2 ^ 32 → IsKeyedNode n → n.at ≡ dummy_at bucket → n.kind ≡ Dummy
dummy_there n bucket fits keyed same = go n.kind refl
  where
    go : (kind : Kind) → n.kind ≡ kind → n.kind ≡ Dummy
    go Dummy is = is
    go Regular is =
        let own = keyed is in
        let odd = split_odd n.at.key in
        let even = reversed_even bucket (omega arith) in
        let parity : split n.at.key ≡ reversed bucket = ap (λ (at : SortKey). at.split) (sym own ∙ same) in
        absurd (omega (arith, odd, even, parity))

-- `IsKeyedNode` holds for every dummy, because it says something only about regular nodes.
pub keyed_dummy : (n : NodeAt) → n.kind ≡ Dummy → IsKeyedNode n
keyed_dummy n dummy regular = absurd (cc (sym dummy ∙ regular))

-- If a change of a node leaves `is_dummy_of` unchanged, it leaves `has_dummy` unchanged.
pub has_dummy-changed_at : (nodes : List NodeAt) (place : ℕ) (change : NodeAt → NodeAt) (bucket : ℕ) → ((n : NodeAt) → is_dummy_of bucket (change n) ≡ is_dummy_of bucket n) → has_dummy (changed_at nodes place change) bucket ≡ has_dummy nodes bucket
unfolding has_dummy changed_at
has_dummy-changed_at [] place change bucket same = refl
has_dummy-changed_at (n ∷ rest) place change bucket same = elim (eqb_tells n.place place) [
  | inl here ↦ rw here.0 (ap (λ b. b || has_dummy rest bucket) (same n))
  | inr past ↦ rw past.0 (ap (λ b. is_dummy_of bucket n || b) (has_dummy-changed_at rest place change bucket same))
]

-- Unlinking the first marked node unlinks no dummy, because no dummy is marked.
pub has_dummy-without_first_marked : (nodes : List NodeAt) (bucket : ℕ) → AllPlain nodes → has_dummy (without_first_marked nodes) bucket ≡ has_dummy nodes bucket
unfolding has_dummy without_first_marked
has_dummy-without_first_marked [] bucket plain = refl
has_dummy-without_first_marked (n ∷ rest) bucket plain = elim (either n.marked) [
  | inl marked ↦ rw (marked, is_dummy_regular bucket n (λ dummy. cc (plain.0 dummy))) refl
  | inr unmarked ↦ rw unmarked (ap (λ b. is_dummy_of bucket n || b) (has_dummy-without_first_marked rest bucket plain.1))
]
