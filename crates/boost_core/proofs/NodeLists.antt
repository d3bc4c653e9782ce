-- Shows that a change of the table's list is the same change of the nodes that contracts see,
-- because `seen` gives one node for each node, in the same order.
use Rattle.std.proofs.Common.{◌≡◌, ℕ, ◌==◌, true, false, inl, inr, List, [], ◌∷◌, ◌++◌, Option, Some, refl, sym, ap, ◌∙◌, map, filter, eq-eqb}
use Rattle.boost_core.proofs.Vocabulary.{AllByRecursion, false≢true, cases_Bool, is_before, IsBefore, NodeAt, IsLinked, node_of, linked_after, changed_at, written_at, IsRising, IsNodeBefore, cleaned, sought, without_first_marked, Node, SortKey, marked_node, IsClean, IsInOrder, StopsAt, is_unmarked, node_at, plain_node}

abbrev pub seen : List NodeAt → List Node
seen nodes = map node_at nodes

-- One node is inserted.
pub record Inserted (old new : List Node) (n : Node) : Type 0 where
  pub front : List Node
  pub back : List Node
  pub old_is : old ≡ front ++ back
  pub new_is : new ≡ front ++ n ∷ back

-- One node is replaced by another.
pub record Replaced (old new : List Node) (was is : Node) : Type 0 where
  pub front : List Node
  pub back : List Node
  pub old_is : old ≡ front ++ was ∷ back
  pub new_is : new ≡ front ++ is ∷ back

-- The first marked node was removed.
pub record Swept (old new : List Node) : Type 0 where
  pub front : List Node
  pub at : SortKey
  pub back : List Node
  pub old_is : old ≡ front ++ marked_node at ∷ back
  pub new_is : new ≡ front ++ back
  pub first : IsClean front

-- A seek for a sort key has removed the marked nodes that it passed. It stops at the first unmarked
-- node whose sort key is not before the key that is sought, or at the end of the list.
pub record Cleaned (sort : SortKey) (old new : List Node) : Type 0 where
  pub passed : List Node
  pub back : List Node
  pub old_is : old ≡ passed ++ back
  pub new_is : new ≡ filter is_unmarked passed ++ back
  pub passes : AllByRecursion (λ n. n.marked ≡ false → IsBefore n.at sort) passed
  pub stops : StopsAt sort back

pub record SoughtFrom (sort : SortKey) (start : Node) (old new : List Node) : Type 0 where
  pub front : List Node
  pub passed : List Node
  pub back : List Node
  pub old_is : old ≡ front ++ start ∷ (passed ++ back)
  pub new_is : new ≡ front ++ start ∷ (filter is_unmarked passed ++ back)
  pub passes : AllByRecursion (λ n. n.marked ≡ false → IsBefore n.at sort) passed
  pub stops : StopsAt sort back

linked_later : (n : NodeAt) (rest : List NodeAt) (place : ℕ) → IsLinked (n ∷ rest) place → (n.place == place) ≡ false → IsLinked rest place
unfolding IsLinked
linked_later n rest place (inl here) apart = absurd (false≢true (sym apart ∙ eq-eqb n.place place here))
linked_later n rest place (inr more) apart = more

pub inserted : (nodes : List NodeAt) (place : ℕ) (x : NodeAt) → IsLinked nodes place → Inserted (seen nodes) (seen (linked_after nodes place x)) (node_at x)
unfolding linked_after IsLinked
inserted [] place x linked = absurd linked
inserted (n ∷ rest) place x linked = elim (cases_Bool (n.place == place)) [
  | inl here ↦ rw here (record { front = node_at n ∷ []; back = seen rest; old_is = refl; new_is = refl })
  | inr apart ↦ rw apart (
      let more = inserted rest place x (linked_later n rest place linked apart) in
      record { front = node_at n ∷ more.front; back = more.back; old_is = ap (λ ns. node_at n ∷ ns) more.old_is; new_is = ap (λ ns. node_at n ∷ ns) more.new_is }
      )
]

-- The node at a place is the first node if that node has the place, and otherwise a node of the
-- rest.
pub node_here : (m : NodeAt) (rest : List NodeAt) (place : ℕ) (n : NodeAt) → node_of (m ∷ rest) place ≡ Some n → (m.place == place) ≡ true → m ≡ n
unfolding node_of
node_here m rest place n is here = cc (rw here at is)

pub node_later : (m : NodeAt) (rest : List NodeAt) (place : ℕ) (o : Option NodeAt) → node_of (m ∷ rest) place ≡ o → (m.place == place) ≡ false → node_of rest place ≡ o
unfolding node_of
node_later m rest place o is apart = rw apart at is

pub none_of_none : (place : ℕ) (n : NodeAt) → node_of [] place ≡ Some n → ⊥
unfolding node_of
none_of_none place n is = cc (is)

pub replaced : (nodes : List NodeAt) (place : ℕ) (change : NodeAt → NodeAt) (n : NodeAt) → node_of nodes place ≡ Some n → Replaced (seen nodes) (seen (changed_at nodes place change)) (node_at n) (node_at (change n))
unfolding changed_at
replaced [] place change n is = absurd (none_of_none place n is)
replaced (m ∷ rest) place change n is = elim (cases_Bool (m.place == place)) [
  | inl here ↦ rw here (
      let same = node_here m rest place n is here in
      record { front = []; back = seen rest; old_is = ap (λ k. node_at k ∷ seen rest) same; new_is = ap (λ k. node_at (change k) ∷ seen rest) same }
      )
  | inr apart ↦ rw apart (
      let more = replaced rest place change n (node_later m rest place (Some n) is apart) in
      record { front = node_at m ∷ more.front; back = more.back; old_is = ap (λ ns. node_at m ∷ ns) more.old_is; new_is = ap (λ ns. node_at m ∷ ns) more.new_is }
      )
]

pub written_seen : (nodes : List NodeAt) (place value : ℕ) → seen (written_at nodes place value) ≡ seen nodes
unfolding changed_at
written_seen [] place value = refl
written_seen (m ∷ rest) place value = elim (cases_Bool (m.place == place)) [
  | inl here ↦ rw here refl
  | inr apart ↦ rw apart (ap (λ ns. node_at m ∷ ns) (written_seen rest place value))
]

pub cleans : (sort : SortKey) (nodes : List NodeAt) → Cleaned sort (seen nodes) (seen (cleaned sort nodes))
unfolding cleaned
cleans sort [] = record { passed = []; back = []; old_is = refl; new_is = refl; passes = tt; stops = tt }
cleans sort (n ∷ rest) = let more = cleans sort rest in elim (cases_Bool n.marked) [
  | inl gone ↦ rw gone (record {
    passed = marked_node n.at ∷ more.passed;
    back = more.back;
    old_is = ap (λ ns. marked_node n.at ∷ ns) more.old_is;
    new_is = more.new_is;
    passes = (λ live. absurd (false≢true (sym live)), more.passes);
    stops = more.stops;
  })
  | inr live ↦ elim (cases_Bool (is_before n.at sort)) [
    | inl less ↦ rw (live, less) (record {
      passed = plain_node n.at ∷ more.passed;
      back = more.back;
      old_is = ap (λ ns. plain_node n.at ∷ ns) more.old_is;
      new_is = ap (λ ns. plain_node n.at ∷ ns) more.new_is;
      passes = (λ is. less, more.passes);
      stops = more.stops;
    })
    | inr most ↦ rw (live, most) (record { passed = []; back = plain_node n.at ∷ seen rest; old_is = refl; new_is = refl; passes = tt; stops = (refl, most) })
  ]
]

pub seeks_from : (sort : SortKey) (nodes : List NodeAt) (place : ℕ) (n : NodeAt) → node_of nodes place ≡ Some n → SoughtFrom sort (node_at n) (seen nodes) (seen (sought nodes place sort))
unfolding sought
seeks_from sort [] place n is = absurd (none_of_none place n is)
seeks_from sort (m ∷ rest) place n is = elim (cases_Bool (m.place == place)) [
  | inl here ↦ rw here (
      let same = node_here m rest place n is here in
      let clean = cleans sort rest in
      record {
        front = [];
        passed = clean.passed;
        back = clean.back;
        old_is = λ i. node_at (same i) ∷ clean.old_is i;
        new_is = λ i. node_at (same i) ∷ clean.new_is i;
        passes = clean.passes;
        stops = clean.stops;
      }
      )
  | inr apart ↦ rw apart (
      let more = seeks_from sort rest place n (node_later m rest place (Some n) is apart) in
      record {
        front = node_at m ∷ more.front;
        passed = more.passed;
        back = more.back;
        old_is = ap (λ ns. node_at m ∷ ns) more.old_is;
        new_is = ap (λ ns. node_at m ∷ ns) more.new_is;
        passes = more.passes;
        stops = more.stops;
      }
      )
]

-- No node of the list is marked.
abbrev pub AllPlain : List NodeAt → Type 0
AllPlain nodes = AllByRecursion (λ n. n.marked ≡ false) nodes

pub clean_seen : (nodes : List NodeAt) → AllPlain nodes → IsClean (seen nodes)
clean_seen [] clean = tt
clean_seen (n ∷ rest) clean = (clean.0, clean_seen rest clean.1)

pub sweeps : (nodes : List NodeAt) → (AllPlain nodes → ⊥) → Swept (seen nodes) (seen (without_first_marked nodes))
unfolding without_first_marked
sweeps [] some = absurd (some tt)
sweeps (n ∷ rest) some = elim (cases_Bool n.marked) [
  | inl gone ↦ rw gone (record { front = []; at = n.at; back = seen rest; old_is = refl; new_is = refl; first = tt })
  | inr live ↦
      let more = sweeps rest (λ clean. some (live, clean)) in rw live (record {
        front = plain_node n.at ∷ more.front;
        at = more.at;
        back = more.back;
        old_is = ap (λ ns. plain_node n.at ∷ ns) more.old_is;
        new_is = ap (λ ns. plain_node n.at ∷ ns) more.new_is;
        first = (refl, more.first);
      })
]

-- If a node is before each node of `rest`, its sort key is before the sort key of each of them.
pub order_behind : (n : NodeAt) (rest : List NodeAt) → AllByRecursion (IsNodeBefore n) rest → AllByRecursion (λ (m : Node). IsBefore n.at m.at) (seen rest)
order_behind n [] each = tt
order_behind n (m ∷ rest) each = (each.0, order_behind n rest each.1)

pub in_order : (nodes : List NodeAt) → IsRising nodes → IsInOrder (seen nodes)
unfolding IsRising IsInOrder
in_order [] rising = tt
in_order (n ∷ rest) rising = (order_behind n rest rising.0, in_order rest rising.1)
