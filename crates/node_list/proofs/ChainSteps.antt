-- The effect of linking, changing or unlinking a node on the chain of nodes and on its first node.
use Rattle.std.proofs.Common.{◌≡◌, ◌≢◌, ℕ, inl, inr, List, [], ◌∷◌, Option, Some, None, refl, sym, ◌∙◌, ap, ap₂, subst}
use Rattle.std.proofs.lemmas.Bool.Decides.{eqb_tells}
use Rattle.std.specs.List.{AllByRecursion}
use Rattle.node_list.specs.declared.node.Node.{Node}
use Rattle.node_list.specs.Slots.{SlotAt, Linked}
use Rattle.node_list.specs.Nodes.{NodeAt, linked_after, unlinked_after, changed_at, first, place_of}
use Rattle.node_list.specs.Order.{AbsentFrom, IsSpread}
use Rattle.node_list.specs.Follow.{IsSameNode}
use Rattle.node_list.specs.Layout.{stored_node, first_place, IsChain, StartsWithHead}
use Rattle.node_list.proofs.OrderLemmas.{some-injective, some-none, each_map, each_both}
use Rattle.node_list.proofs.ChainLemmas.{linked-injective, place_of_first, chain_kept, chain_absent, next_is}

-- Each change of the list leaves the place of the first node unchanged.
first_linked : (nodes : List NodeAt) (pred : ℕ) (x : NodeAt) → first (linked_after nodes pred x) ≡ first nodes
unfolding linked_after
first_linked [] pred x = refl
first_linked (n ∷ rest) pred x = elim (eqb_tells n.place pred) [
  | inl here ↦ rw here.0 refl
  | inr apart ↦ rw apart.0 refl
]

first_unlinked : (nodes : List NodeAt) (pred : ℕ) → first (unlinked_after nodes pred) ≡ first nodes
unfolding unlinked_after
first_unlinked [] pred = refl
first_unlinked (n ∷ rest) pred = elim (eqb_tells n.place pred) [
  | inl here ↦ rw here.0 refl
  | inr apart ↦ rw apart.0 refl
]

first_place-linked : (nodes : List NodeAt) (pred : ℕ) (x : NodeAt) → first_place (linked_after nodes pred x) ≡ first_place nodes
first_place-linked nodes pred x =
    sym (place_of_first (linked_after nodes pred x)) ∙ ap place_of (first_linked nodes pred x) ∙ place_of_first nodes

first_place-unlinked : (nodes : List NodeAt) (pred : ℕ) → first_place (unlinked_after nodes pred) ≡ first_place nodes
first_place-unlinked nodes pred =
    sym (place_of_first (unlinked_after nodes pred)) ∙ ap place_of (first_unlinked nodes pred) ∙ place_of_first nodes

first_place-changed : (nodes : List NodeAt) (place : ℕ) (change : NodeAt → NodeAt) → ((n : NodeAt) → IsSameNode n (change n)) → first_place (changed_at nodes place change) ≡ first_place nodes
unfolding changed_at
first_place-changed [] place change same = refl
first_place-changed (n ∷ rest) place change same = elim (eqb_tells n.place place) [
  | inl here ↦ rw here.0 (ap Some (sym (same n).place))
  | inr apart ↦ rw apart.0 refl
]

-- After each change of the list, the dummy of bucket 0 is still the first node.
pub starts_linked : (nodes : List NodeAt) (head pred : ℕ) (x : NodeAt) → StartsWithHead nodes head
    → StartsWithHead (linked_after nodes pred x) head
starts_linked nodes head pred x starts =
    record { node = starts.node; is = first_linked nodes pred x ∙ starts.is; place = starts.place; at = starts.at; kind = starts.kind }

pub starts_unlinked : (nodes : List NodeAt) (head pred : ℕ) → StartsWithHead nodes head → StartsWithHead (unlinked_after nodes pred) head
starts_unlinked nodes head pred starts =
    record { node = starts.node; is = first_unlinked nodes pred ∙ starts.is; place = starts.place; at = starts.at; kind = starts.kind }

pub starts_changed : (nodes : List NodeAt) (head place : ℕ) (change : NodeAt → NodeAt) → ((n : NodeAt) → IsSameNode n (change n)) → StartsWithHead nodes head → StartsWithHead (changed_at nodes place change) head
unfolding changed_at
starts_changed [] head place change same starts = starts
starts_changed (n ∷ rest) head place change same starts = elim (eqb_tells n.place place) [
  | inl here ↦
      let n_is : n ≡ starts.node = some-injective starts.is in
      rw here.0 (record {
        node = change n;
        is = refl;
        place = sym (same n).place ∙ ap (λ (v : NodeAt). v.place) n_is ∙ starts.place;
        at = sym (same n).at ∙ ap (λ (v : NodeAt). v.at) n_is ∙ starts.at;
        kind = sym (same n).kind ∙ ap (λ (v : NodeAt). v.kind) n_is ∙ starts.kind;
      })
  | inr apart ↦
      rw apart.0 (record { node = starts.node; is = starts.is; place = starts.place; at = starts.at; kind = starts.kind })
]

-- A node is linked after `pred` by two writes: the slot of `pred` gets the new node's place, and
-- the slot of the new node gets the place that followed `pred` before. The chain is then
-- `linked_after`.
pub chain_linked : (at new : ℕ → Option SlotAt) (nodes : List NodeAt) (pred : ℕ) (x : NodeAt) (before : Node) → IsChain at nodes → IsSpread nodes → AbsentFrom x.place nodes → at pred ≡ Some (Linked before) → new pred ≡ Some (Linked (record before { next = Some x.place })) → new x.place ≡ Some (Linked (stored_node x before.next)) → ((other : ℕ) → other ≢ pred → other ≢ x.place → new other ≡ at other) → IsChain new (linked_after nodes pred x)
unfolding IsChain IsSpread linked_after
chain_linked at new [] pred x before chain apart absent is written x_is others = tt
chain_linked at new (n ∷ rest) pred x before chain apart absent is written x_is others = elim (eqb_tells n.place pred) [
  | inl here ↦
      let node_is : before ≡ stored_node n (first_place rest) = linked-injective (sym is ∙ rw here.1 at chain.0) in
      let apart_here : AbsentFrom pred rest = rw here.1 at apart.0 in
      let both = each_both (λ m. m.place ≢ pred) (λ m. m.place ≢ x.place) rest apart_here absent.1 in
      let same : AllByRecursion (λ m. new m.place ≡ at m.place) rest =
      each_map (λ m. (m.place ≢ pred) × (m.place ≢ x.place)) (λ m. new m.place ≡ at m.place) rest (λ m (not_pred, not_x). others m.place not_pred not_x) both in
      rw here.0 (
        rw here.1 (rw node_is at written),
        (rw node_is at x_is, chain_kept at new rest chain.1 same),
      )
  | inr later ↦
      rw later.0 (
        rw (first_place-linked rest pred x) (others n.place later.1 absent.0 ∙ chain.0),
        chain_linked at new rest pred x before chain.1 apart.1 absent.1 is written x_is others,
      )
]

renamed : (before behind : Node) (n m : NodeAt) (next after : Option ℕ) → before ≡ stored_node n next → behind ≡ stored_node m after → record before { next = behind.next } ≡ stored_node n after
renamed before behind n m next after first second = ap₂ (λ (b c : Node). record b { next = c.next }) first second

-- The node right after `pred` is unlinked by a write to the slot of `pred`: this slot gets the
-- place that follows the unlinked node. The chain is then `unlinked_after`.
pub chain_unlinked : (at new : ℕ → Option SlotAt) (nodes : List NodeAt) (pred place : ℕ) (before behind : Node) → IsChain at nodes → IsSpread nodes → at pred ≡ Some (Linked before) → before.next ≡ Some place → at place ≡ Some (Linked behind) → new pred ≡ Some (Linked (record before { next = behind.next })) → ((other : ℕ) → other ≢ pred → new other ≡ at other) → IsChain new (unlinked_after nodes pred)
unfolding IsChain IsSpread unlinked_after
chain_unlinked at new [] pred place before behind chain apart is next_is is_behind written others = tt
chain_unlinked at new (n ∷ []) pred place before behind chain apart is next_is is_behind written others = elim (eqb_tells n.place pred) [
  | inl here ↦
      let node_is : before ≡ stored_node n None = linked-injective (sym is ∙ rw here.1 at chain.0) in
      let none_is : before.next ≡ None = ap (λ (b : Node). b.next) node_is in
      absurd (some-none (sym next_is ∙ none_is))
  | inr later ↦ rw later.0 (others n.place later.1 ∙ chain.0, tt)
]
chain_unlinked at new (n ∷ (m ∷ rest)) pred place before behind chain apart is next_is is_behind written others = elim (eqb_tells n.place pred) [
  | inl here ↦
      let node_is : before ≡ stored_node n (Some m.place) = linked-injective (sym is ∙ rw here.1 at chain.0) in
      let place_is : place ≡ m.place = some-injective (sym next_is ∙ ap (λ (b : Node). b.next) node_is) in
      let behind_is : behind ≡ stored_node m (first_place rest) = linked-injective (sym is_behind ∙ ap at place_is ∙ chain.1.0) in
      let apart_here : AbsentFrom pred rest = subst (λ (p : ℕ). AbsentFrom p rest) here.1 apart.0.1 in
      let written_n : new n.place ≡ Some (Linked (record before { next = behind.next })) = rw here.1 written in
      let node_now : record before { next = behind.next } ≡ stored_node n (first_place rest) = renamed before behind n m (Some m.place) (first_place rest) node_is behind_is in
      rw here.0 (
        written_n ∙ ap (λ v. Some (Linked v)) node_now,
        chain_absent at new pred rest chain.1.1 apart_here others,
      )
  | inr later ↦
      rw later.0 (
        rw (first_place-unlinked (m ∷ rest) pred) (others n.place later.1 ∙ chain.0),
        chain_unlinked at new (m ∷ rest) pred place before behind chain.1 apart.1 is next_is is_behind written others,
      )
]

-- If a node is changed in its slot, the chain becomes `changed_at`.
pub chain_changed : (at new : ℕ → Option SlotAt) (nodes : List NodeAt) (place : ℕ) (change : NodeAt → NodeAt) (node written : Node) → IsChain at nodes → IsSpread nodes → ((n : NodeAt) → IsSameNode n (change n)) → ((n : NodeAt) (next : Option ℕ) → node ≡ stored_node n next → written ≡ stored_node (change n) next) → at place ≡ Some (Linked node) → new place ≡ Some (Linked written) → ((other : ℕ) → other ≢ place → new other ≡ at other) → IsChain new (changed_at nodes place change)
unfolding IsChain IsSpread changed_at
chain_changed at new [] place change node written chain apart same stores is is_written others = tt
chain_changed at new (n ∷ rest) place change node written chain apart same stores is is_written others = elim (eqb_tells n.place place) [
  | inl here ↦
      let node_is : node ≡ stored_node n (first_place rest) = linked-injective (sym is ∙ rw here.1 at chain.0) in
      let apart_here : AbsentFrom place rest = rw here.1 at apart.0 in
      let there : new (change n).place ≡ Some (Linked written) = ap new (sym (same n).place ∙ here.1) ∙ is_written in
      rw here.0 (
        there ∙ ap (λ v. Some (Linked v)) (stores n (first_place rest) node_is),
        chain_absent at new place rest chain.1 apart_here others,
      )
  | inr later ↦
      rw later.0 (
        rw (first_place-changed rest place change same) (others n.place later.1 ∙ chain.0),
        chain_changed at new rest place change node written chain.1 apart.1 same stores is is_written others,
      )
]
