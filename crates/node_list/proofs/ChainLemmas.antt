-- Shows that a walk finds the linked nodes in the slots of a slab, because each slot has the place
-- of the next node, and the sort keys rise, so no place comes twice.
use Rattle.std.proofs.Common.{◌≡◌, ◌≢◌, ℕ, ◌<◌, ◌≤◌, inl, inr, List, [], ◌∷◌, Option, Some, None, Bool, true, false, length, refl, sym, ◌∙◌, ap, ap₂, arith, count_by, is_some, cond, get_or, set, get_or-set_other}
use Prim.Native.Nat.{zero, suc}
use Rattle.std.proofs.lemmas.Bool.{cases_lt}
use Rattle.std.proofs.lemmas.Bool.Decides.{eqb_tells}
use Rattle.std.proofs.lemmas.List.{get_or_past}
use Rattle.std.proofs.lemmas.List.Sums.{sum_by-set}
use Rattle.std.specs.List.{AllByRecursion}
use Rattle.slab.specs.Slab.{Slab, get, slab_len}
use Rattle.node_list.specs.declared.node.Node.{Node}
use Rattle.node_list.specs.Slots.{SlotAt, Linked, Out, node_in}
use Rattle.node_list.specs.Nodes.{NodeAt, IsLinked, node_of, next_of, first, place_of}
use Rattle.node_list.specs.Order.{IsNodeBefore, IsRising, AbsentFrom, IsSpread}
use Rattle.node_list.specs.Seen.{node_seen}
use Rattle.node_list.specs.Layout.{stored_node, walk, first_place, IsChain, nodes_in, StartsWithHead, IsLaidOut}
use Rattle.node_list.proofs.OrderLemmas.{some-injective, some-none, before-irreflexive, before-same, each_map}

pub linked-injective : {x y : Node} → Some (Linked x) ≡ Some (Linked y) → x ≡ y
linked-injective e = cc

pub out-not-linked : {stamp : ℕ} {n : Node} → Some (Out stamp) ≡ Some (Linked n) → ⊥
out-not-linked e = cc

-- If `node_in` gives a node for a slot, the slot has this linked node. If `node_in` gives None, the
-- slot has no linked node.
pub node_in-linked : (slot : Option SlotAt) (n : Node) → Some n ≡ node_in slot → slot ≡ Some (Linked n)
node_in-linked None n is = absurd (some-none is)
node_in-linked (Some (Linked m)) n is = ap (λ k. Some (Linked k)) (some-injective (sym is))
node_in-linked (Some (Out stamp)) n is = absurd (some-none is)

pub node_in-none : (slot : Option SlotAt) (n : Node) → None ≡ node_in slot → slot ≡ Some (Linked n) → ⊥
node_in-none slot n none is = some-none (sym (none ∙ ap node_in is))

pub true-ne-false : true ≡ false → ⊥
true-ne-false e = cc

-- A walk finds the nodes of the chain.
walk_is : (fuel : ℕ) (at : ℕ → Option SlotAt) (nodes : List NodeAt) → IsChain at nodes → length nodes ≤ fuel → walk fuel at (first_place nodes) ≡ nodes
unfolding walk IsChain
walk_is zero at [] chain room = refl
walk_is zero at (n ∷ rest) chain room = absurd (omega arith)
walk_is (suc fuel) at [] chain room = refl
walk_is (suc fuel) at (n ∷ rest) chain room =
    rw chain.0 (ap (λ ns. n ∷ ns) (walk_is fuel at rest chain.1 (omega arith)))

absent_after : (at : ℕ → Option SlotAt) (n : NodeAt) (next : Option ℕ) (nodes : List NodeAt) → at n.place ≡ Some (Linked (stored_node n next)) → IsChain at nodes → AllByRecursion (IsNodeBefore n) nodes → AbsentFrom n.place nodes
unfolding IsChain
absent_after at n next [] is chain before = tt
absent_after at n next (m ∷ rest) is chain before = (
  (λ same.
      let here : at n.place ≡ Some (Linked (stored_node m (first_place rest))) = rw (← same) chain.0 in
      let equal : stored_node m (first_place rest) ≡ stored_node n next = linked-injective (sym here ∙ is) in
      before-irreflexive n (before-same n m n n refl (ap (λ (v : Node). v.at) equal) before.0)),
  absent_after at n next rest is chain.1 before.1,
)

pub spread : (at : ℕ → Option SlotAt) (nodes : List NodeAt) → IsChain at nodes → IsRising nodes → IsSpread nodes
unfolding IsChain IsRising IsSpread
spread at [] chain rising = tt
spread at (n ∷ rest) chain rising =
    (absent_after at n (first_place rest) rest chain.0 chain.1 rising.0, spread at rest chain.1 rising.1)

-- Each node's slot is in use.
abbrev pub AllInUse : List (Option SlotAt) → List NodeAt → Type 0
AllInUse slots nodes = AllByRecursion (λ n. is_some (get_or slots n.place None) ≡ true) nodes

pub in_use : (slots : List (Option SlotAt)) (nodes : List NodeAt) → IsChain (λ p. get_or slots p None) nodes → AllInUse slots nodes
unfolding IsChain
in_use slots [] chain = tt
in_use slots (n ∷ rest) chain = (ap is_some chain.0, in_use slots rest chain.1)

-- If a slot is emptied, the slots of the nodes at other places stay in use.
in_use_after : (slots : List (Option SlotAt)) (place : ℕ) (nodes : List NodeAt) → AbsentFrom place nodes → AllInUse slots nodes → AllInUse (set slots place None) nodes
in_use_after slots place [] absent used = tt
in_use_after slots place (n ∷ rest) absent used =
    (rw (get_or-set_other slots place n.place None None absent.0) used.0, in_use_after slots place rest absent.1 used.1)

-- The place of a slot in use is below the number of slots.
in_range : (slots : List (Option SlotAt)) (place : ℕ) → is_some (get_or slots place None) ≡ true → place < length slots
in_range slots place used =
    elim (cases_lt place (length slots)) [
      | inl within ↦ within
      | inr past ↦
          let nothing : is_some {T = SlotAt} (get_or slots place None) ≡ false = ap is_some (get_or_past slots place None past) in
          absurd (true-ne-false (sym used ∙ nothing))
    ]

one_if : (b : Bool) → b ≡ true → cond {A = ℕ} b 1 0 ≡ 1
one_if b is = rw is refl

-- There are at most as many nodes as slots in use.
room : (slots : List (Option SlotAt)) (nodes : List NodeAt) → IsSpread nodes → AllInUse slots nodes → length nodes ≤ count_by is_some slots
unfolding IsSpread
room slots [] apart used = omega arith
room slots (n ∷ rest) apart used =
    let within = in_range slots n.place used.0 in
    let later = room (set slots n.place None) rest apart.1 (in_use_after slots n.place rest apart.0 used.1) in
    let one_less = sum_by-set (λ (s : Option SlotAt). cond (is_some s) 1 0) slots n.place None None within in
    let here = one_if (is_some (get_or slots n.place None)) used.0 in
    omega (arith, one_less, here)

pub nodes_fit : (slab : Slab SlotAt) (head : ℕ) (nodes : List NodeAt) → IsLaidOut slab head nodes → length nodes ≤ slab_len slab
nodes_fit slab head nodes laid =
    room slab.slots nodes (spread (get slab) nodes laid.chain laid.rising) (in_use slab.slots nodes laid.chain)

pub place_of_first : (nodes : List NodeAt) → place_of (first nodes) ≡ first_place nodes
place_of_first [] = refl
place_of_first (n ∷ rest) = refl

start_place : (nodes : List NodeAt) (head : ℕ) → StartsWithHead nodes head → first_place nodes ≡ Some head
start_place nodes head starts = sym (place_of_first nodes) ∙ ap place_of starts.is ∙ ap Some starts.place

-- `nodes_in` gives the nodes that are laid out in the slab.
pub nodes_in_is : (slab : Slab SlotAt) (head : ℕ) (nodes : List NodeAt) → IsLaidOut slab head nodes → nodes_in slab head ≡ nodes
unfolding nodes_in
nodes_in_is slab head nodes laid =
    rw (← start_place nodes head laid.starts) (walk_is (slab_len slab) (get slab) nodes laid.chain (nodes_fit slab head nodes laid))

-- If the slots of a chain's nodes are unchanged, the chain is unchanged.
pub chain_kept : (at new : ℕ → Option SlotAt) (nodes : List NodeAt) → IsChain at nodes → AllByRecursion (λ n. new n.place ≡ at n.place) nodes → IsChain new nodes
unfolding IsChain
chain_kept at new [] chain same = tt
chain_kept at new (n ∷ rest) chain same = (same.0 ∙ chain.0, chain_kept at new rest chain.1 same.1)

-- If no node of a chain is at a place, a change of the slot there leaves the chain unchanged.
pub chain_absent : (at new : ℕ → Option SlotAt) (place : ℕ) (nodes : List NodeAt) → IsChain at nodes → AbsentFrom place nodes → ((other : ℕ) → other ≢ place → new other ≡ at other) → IsChain new nodes
chain_absent at new place nodes chain absent others =
    chain_kept at new nodes chain (each_map (λ n. n.place ≢ place) (λ n. new n.place ≡ at n.place) nodes (λ n apart. others n.place apart) absent)

-- If the slot at a place has no linked node, no node of the chain is at that place.
pub absent_free : (at : ℕ → Option SlotAt) (nodes : List NodeAt) (place : ℕ) → IsChain at nodes → ((node : Node) → at place ≢ Some (Linked node)) → AbsentFrom place nodes
unfolding IsChain
absent_free at [] place chain free = tt
absent_free at (n ∷ rest) place chain free = ((λ same. free _ (rw same at chain.0)), absent_free at rest place chain.1 free)

-- If a chain has a node at a place, the slot at that place holds a linked node.
pub linked_node : (at : ℕ → Option SlotAt) (nodes : List NodeAt) (place : ℕ) → IsChain at nodes → IsLinked nodes place → (node : Node) × (at place ≡ Some (Linked node))
unfolding IsChain IsLinked
linked_node at [] place chain is = absurd is
linked_node at (n ∷ rest) place chain (inl here) = (stored_node n (first_place rest), rw (← here) chain.0)
linked_node at (n ∷ rest) place chain (inr later) = linked_node at rest place chain.1 later

-- If the slot at a place holds no linked node, the chain has no node at that place.
pub not_linked : (at : ℕ → Option SlotAt) (nodes : List NodeAt) (place : ℕ) → IsChain at nodes → ((node : Node) → at place ≢ Some (Linked node)) → IsLinked nodes place → ⊥
not_linked at nodes place chain free linked = let there = linked_node at nodes place chain linked in free there.0 there.1

-- If a chain has a node at a place, `node_of` finds there the node that the slot holds.
pub node_found : (at : ℕ → Option SlotAt) (nodes : List NodeAt) (place : ℕ) (node : Node) → IsChain at nodes → IsLinked nodes place → at place ≡ Some (Linked node) → node_of nodes place ≡ Some (node_seen place node)
unfolding IsChain IsLinked node_of
node_found at [] place node chain is is_node = absurd is
node_found at (n ∷ rest) place node chain is is_node = elim (eqb_tells n.place place) [
  | inl here ↦
      let node_is : node ≡ stored_node n (first_place rest) = linked-injective (sym is_node ∙ rw here.1 at chain.0) in
      rw here.0 (ap₂ (λ p v. Some (node_seen p v)) here.1 (sym node_is))
  | inr apart ↦ rw apart.0 (node_found at rest place node chain.1 (elim is [ inl here ↦ absurd (apart.1 here) | inr later ↦ later ]) is_node)
]

-- The slot of a linked node has the place of the next node, if there is a next node.
pub next_is : (at : ℕ → Option SlotAt) (nodes : List NodeAt) (pred : ℕ) (before : Node) → IsChain at nodes → IsLinked nodes pred → at pred ≡ Some (Linked before) → place_of (next_of nodes pred) ≡ before.next
unfolding IsChain IsLinked next_of
next_is at [] pred before chain is is_before = absurd is
next_is at (n ∷ rest) pred before chain is is_before = elim (eqb_tells n.place pred) [
  | inl here ↦
      let node_is : before ≡ stored_node n (first_place rest) = linked-injective (sym is_before ∙ rw here.1 at chain.0) in
      rw here.0 (place_of_first rest ∙ sym (ap (λ (b : Node). b.next) node_is))
  | inr apart ↦ rw apart.0 (next_is at rest pred before chain.1 (elim is [ inl here ↦ absurd (apart.1 here) | inr later ↦ later ]) is_before)
]
