-- Shows that a sweep may begin at a dummy before the first marks, because all nodes before the
-- dummy have lower split keys, and so no marks (`before_marks`).
use Rattle.std.proofs.Common.{◌≡◌, ℕ, ◌<◌, ◌≤◌, inl, inr, List, [], ◌∷◌, ◌++◌, Option, Some, None, Bool, true, false, refl, sym, ◌∙◌, ap, subst, arith, append_assoc, if◌then◌else◌}
use Rattle.std.specs.List.{AllByRecursion}
use Rattle.split_key.specs.declared.sort.SortKey.{SortKey}
use Rattle.split_key.specs.Split.{reversed}
use Rattle.split_key.specs.Sort.{IsBefore, IsNotBefore, dummy_at}
use Rattle.split_key.proofs.SortLemmas.{lower_from, before_irreflexive, before_once, before_not_before, before_behind, true-false}
use Rattle.node_list.specs.declared.node.Kind.TheVariants.{Dummy}
use Rattle.node_list.specs.Nodes.{NodeAt, Listing, node_of, next_of, first, without_first, unlinked_after}
use Rattle.node_list.specs.Order.{IsNodeBefore, IsRising, IsSpread}
use Rattle.node_list.specs.Sound.{AllPlain, IsSound}
use Rattle.node_list.specs.Tally.{AreMarksFrom}
use Rattle.list_steps.specs.Steps.{IsBeforeMarks, without_first_marked}
use Rattle.list_steps.proofs.OrderLemmas.{before_later}
use Rattle.list_steps.proofs.NodeLemmas.{IsAt, found_at, next_at, unlinked_at, at_next, first_is, first_none}

-- None of these nodes is marked.
abbrev pub IsClean : List NodeAt → Type 0
IsClean nodes = AllByRecursion (λ n. n.marked ≡ false) nodes

-- The sweep has reached a node. Neither this node nor any node before it is marked.
pub record IsSweeping (nodes : List NodeAt) (place : ℕ) : Type 0 where
  pub node : NodeAt
  pub at : IsAt nodes place node
  pub passed : IsClean (at.front ++ node ∷ [])

clean-append : (front rest : List NodeAt) → IsClean front → IsClean rest → IsClean (front ++ rest)
clean-append [] rest before after = after
clean-append (n ∷ front) rest before after = (before.0, clean-append front rest before.1 after)

not_marked : (b : Bool) → (b ≡ true → ⊥) → b ≡ false
not_marked true never = absurd (never refl)
not_marked false never = refl

-- If a node precedes all marked nodes, each node that is not after it is unmarked.
unmarked_up_to : (n m : NodeAt) → IsNotBefore n.at m.at → (m.marked ≡ true → IsBefore n.at m.at) → m.marked ≡ false
unmarked_up_to n m not_before before = not_marked m.marked (λ marked. before_not_before n.at m.at (before marked) not_before)

clean_up_to : (front : List NodeAt) (n : NodeAt) (rest : List NodeAt) → IsRising (front ++ n ∷ rest) → AllByRecursion (λ m. m.marked ≡ true → IsBefore n.at m.at) (front ++ n ∷ rest) → IsClean (front ++ n ∷ [])
unfolding IsRising
clean_up_to [] n rest rising before = (unmarked_up_to n n (before_irreflexive n.at) before.0, tt)
clean_up_to (m ∷ front) n rest rising before = (
  unmarked_up_to n m (before_once m.at n.at (before_later m n front rest rising.0)) before.0,
  clean_up_to front n rest rising.1 before.1,
)

plain-append : (front : List NodeAt) (n : NodeAt) (rest : List NodeAt) → AllPlain (front ++ n ∷ rest) → n.kind ≡ Dummy → n.marked ≡ false
plain-append [] n rest plain = plain.0
plain-append (m ∷ front) n rest plain = plain-append front n rest plain.1

without_first_marked-cons : (n : NodeAt) (rest : List NodeAt) → n.marked ≡ false → without_first_marked (n ∷ rest) ≡ n ∷ without_first_marked rest
unfolding without_first_marked
without_first_marked-cons n rest unmarked = rw unmarked refl

without_first_marked-append : (front : List NodeAt) (m : NodeAt) (rest : List NodeAt) → IsClean front → m.marked ≡ true → without_first_marked (front ++ m ∷ rest) ≡ front ++ rest
unfolding without_first_marked
without_first_marked-append [] m rest passed marked = rw marked refl
without_first_marked-append (n ∷ front) m rest passed marked =
    without_first_marked-cons n (front ++ m ∷ rest) passed.0
    ∙ ap (λ ns. n ∷ ns) (without_first_marked-append front m rest passed.1 marked)

-- If a node precedes all marked nodes, a sweep may begin at this node: neither it nor any node
-- before it is marked.
pub sweeping_from : (nodes : List NodeAt) (place : ℕ) → IsRising nodes → IsBeforeMarks nodes place → IsSweeping nodes place
sweeping_from nodes place rising start =
    let node = start.node in
    let at = found_at nodes place node start.is in
    let R : List NodeAt → Type 0 = IsRising in
    let B : List NodeAt → Type 0 = AllByRecursion (λ m. m.marked ≡ true → IsBefore node.at m.at) in
    record {
      node = node;
      at = at;
      passed = clean_up_to at.front node at.rest (subst R at.is rising) (subst B at.is start.before);
    }

behind_rest : (n : NodeAt) (rest : List NodeAt) → AllByRecursion (IsNodeBefore n) rest → AllByRecursion (λ m. m.marked ≡ true → IsBefore n.at m.at) rest
behind_rest n [] before = tt
behind_rest n (m ∷ rest) before = ((λ marked. before.0), behind_rest n rest before.1)

-- If a node and all nodes before it are unmarked, the node precedes all marked nodes.
behind_all : (P : NodeAt → Type 0) (front : List NodeAt) (n : NodeAt) (rest : List NodeAt) → IsRising (front ++ n ∷ rest) → n.marked ≡ false → ((m : NodeAt) → P m → IsBefore m.at n.at → m.marked ≡ true → ⊥) → AllByRecursion P (front ++ n ∷ rest) → AllByRecursion (λ m. m.marked ≡ true → IsBefore n.at m.at) (front ++ n ∷ rest)
unfolding IsRising
behind_all P [] n rest rising unmarked never each = (
  (λ marked. absurd (true-false (sym marked ∙ unmarked))),
  behind_rest n rest rising.0,
)
behind_all P (m ∷ front) n rest rising unmarked never each = (
  (λ marked. absurd (never m each.0 (before_later m n front rest rising.0) marked)),
  behind_all P front n rest rising.1 unmarked never each.1,
)

-- The first node precedes all marked nodes.
pub head_before_marks : (l : Listing) → IsSound l → IsBeforeMarks l.nodes l.head
unfolding IsRising
head_before_marks l sound =
    let node = sound.first.node in
    let nodes_are = first_is l.nodes node sound.first.first in
    let P : List NodeAt → Type 0 = AllPlain in
    let R : List NodeAt → Type 0 = IsRising in
    let B : List NodeAt → Type 0 = AllByRecursion (λ m. m.marked ≡ true → IsBefore node.at m.at) in
    let unmarked = plain-append [] node (without_first l.nodes) (subst P nodes_are sound.plain) sound.first.kind in
    let rising = subst R nodes_are sound.rising in
    record {
      node = node;
      is = sound.first.is;
      before = subst B (sym nodes_are) ((λ marked. absurd (true-false (sym marked ∙ unmarked))), behind_rest node (without_first l.nodes) rising.0);
    }

-- Each node before the dummy of a bucket has a lower split key than the dummy.
early_low : (bucket : ℕ) (at : SortKey) → IsBefore at (dummy_at bucket) → at.split < reversed bucket
early_low bucket at before = elim (lower_from at (dummy_at bucket) before) [
  | inl less ↦ less
  | inr both ↦ absurd (omega (arith, both.1))
]

-- Let `split` be the result of `NodeList::marks_begin`, and let `bucket` have a dummy whose split
-- key is at most `split`. Each linked dummy that is not after this dummy precedes all marked nodes.
-- The function `bucket_at` returns such a bucket for `split`. So a sweep may begin at the dummy of
-- that bucket, or at the dummy of its nearest stored ancestor.
pub before_marks : (l : Listing) (place bucket split : ℕ) (node : NodeAt) → IsSound l → node_of l.nodes place ≡ Some node → node.kind ≡ Dummy → IsNotBefore (dummy_at bucket) node.at → reversed bucket ≤ split → AreMarksFrom split l.nodes → IsBeforeMarks l.nodes place
before_marks l place bucket split node sound is dummy not_behind order from =
    let at = found_at l.nodes place node is in
    let P : List NodeAt → Type 0 = AllPlain in
    let R : List NodeAt → Type 0 = IsRising in
    let M : List NodeAt → Type 0 = AreMarksFrom split in
    let B : List NodeAt → Type 0 = AllByRecursion (λ m. m.marked ≡ true → IsBefore node.at m.at) in
    let unmarked = plain-append at.front node at.rest (subst P at.is sound.plain) dummy in
    let never : (m : NodeAt) → (m.marked ≡ true → split ≤ m.at.split) → IsBefore m.at node.at → m.marked ≡ true → ⊥ =
    λ m high before marked. omega (arith, high marked, order, early_low bucket m.at (before_behind m.at node.at (dummy_at bucket) before not_behind)) in
    record {
      node = node;
      is = is;
      before = subst B (sym at.is) (behind_all (λ m. m.marked ≡ true → split ≤ m.at.split) at.front node at.rest (subst R at.is sound.rising) unmarked never (subst M at.is from));
    }

module _ (nodes : List NodeAt) (place : ℕ) (sweeping : IsSweeping nodes place) where
  first_rest : (o : Option NodeAt) → next_of nodes place ≡ o → first sweeping.at.rest ≡ o
  first_rest o is = sym (next_at nodes place sweeping.node sweeping.at) ∙ is

  -- If the next node is unmarked, the sweep moves on to it.
  pub sweeping_passed : (m : NodeAt) → IsSpread nodes → next_of nodes place ≡ Some m → m.marked ≡ false → IsSweeping nodes m.place
  sweeping_passed m spread is unmarked = record {
    node = m;
    at = at_next nodes place sweeping.node sweeping.at m spread (first_rest (Some m) is);
    passed = clean-append (sweeping.at.front ++ sweeping.node ∷ []) (m ∷ []) sweeping.passed (unmarked, tt);
  }

  -- If the next node is marked, it is the first marked node.
  pub sweeping_found : (m : NodeAt) → next_of nodes place ≡ Some m → m.marked ≡ true → unlinked_after nodes place ≡ without_first_marked nodes
  sweeping_found m is marked =
      unlinked_at nodes place sweeping.node sweeping.at
      ∙ sym (append_assoc sweeping.at.front (sweeping.node ∷ []) (without_first sweeping.at.rest))
      ∙ sym (
      ap without_first_marked apart
      ∙ without_first_marked-append (sweeping.at.front ++ sweeping.node ∷ []) m (without_first sweeping.at.rest) sweeping.passed marked
      )
    where
      apart : nodes ≡ (sweeping.at.front ++ sweeping.node ∷ []) ++ m ∷ without_first sweeping.at.rest
      apart =
          sweeping.at.is ∙ ap (λ ns. sweeping.at.front ++ sweeping.node ∷ ns) (first_is sweeping.at.rest m (first_rest (Some m) is))
          ∙ sym (append_assoc sweeping.at.front (sweeping.node ∷ []) (m ∷ without_first sweeping.at.rest))

  -- If there is no next node, no node is marked.
  pub sweeping_ends : next_of nodes place ≡ None → IsClean nodes
  sweeping_ends is =
      let nothing = first_none sweeping.at.rest (first_rest None is) in
      let C : List NodeAt → Type 0 = IsClean in
      subst C (sym (sweeping.at.is ∙ ap (λ ns. sweeping.at.front ++ sweeping.node ∷ ns) nothing)) sweeping.passed

-- If a statement holds for each node, it holds for each node that remains after a sweep.
pub each_swept : (P : NodeAt → Type 0) (nodes : List NodeAt) → AllByRecursion P nodes → AllByRecursion P (without_first_marked nodes)
unfolding without_first_marked
each_swept P [] each = tt
each_swept P (n ∷ rest) each = elim n.marked as (λ b. AllByRecursion P (if b then rest else n ∷ without_first_marked rest)) [
  | true ↦ each.1
  | false ↦ (each.0, each_swept P rest each.1)
]
