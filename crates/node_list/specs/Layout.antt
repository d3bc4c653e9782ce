-- A list as it is laid out in its slab.
use Rattle.std.specs.Prelude.{◌≡◌, ℕ, ◌<◌, ◌≤◌, ◌-◌, ◌^◌, List, [], ◌∷◌, Option, Some, None, true, map}
use Prim.Native.Nat.{zero, suc}
use Rattle.split_key.specs.Sort.{dummy_at}
use Rattle.slab.specs.Slab.{Slab, get, slab_len}
use Rattle.node_list.specs.declared.node.Node.{Node}
use Rattle.node_list.specs.declared.node.Kind.TheVariants.{Dummy}
use Rattle.node_list.specs.Slots.{SlotAt, Linked, Out}
use Rattle.node_list.specs.Nodes.{NodeAt, Listing, IsLinked, first, live_count, marked_count}
use Rattle.node_list.specs.Order.{IsRising}
use Rattle.node_list.specs.Seen.{node_seen}
use Rattle.node_list.specs.Sound.{AllPlain}
use Rattle.node_list.specs.Tally.{TallyAt, IsTallied}

-- A node as it is stored, with the place of the next node.
abbrev pub stored_node : NodeAt → Option ℕ → Node
stored_node n next = record {
  at = n.at;
  kind = n.kind;
  value = n.value;
  stamp = n.stamp;
  marked = n.marked;
  is_linked = true;
  next = next;
}

-- The linked node in a slot, followed by the nodes that `rest` gives for the place of the next
-- node. If the slot has no linked node, the list is empty.
abbrev pub step : ℕ → Option SlotAt → (Option ℕ → List NodeAt) → List NodeAt
step place None rest = []
step place (Some (Out stamp)) rest = []
step place (Some (Linked n)) rest = node_seen place n ∷ rest n.next

-- The linked nodes from a place on, in order. The first argument limits the number of nodes.
unfoldable pub walk : ℕ → (ℕ → Option SlotAt) → Option ℕ → List NodeAt
walk zero at from = []
walk (suc fuel) at None = []
walk (suc fuel) at (Some place) = step place (at place) (λ next. walk fuel at next)

-- The place of the first node.
abbrev pub first_place : List NodeAt → Option ℕ
first_place [] = None
first_place (n ∷ rest) = Some n.place

-- Each of these nodes is stored in the slot at its place, together with the place of the next node.
unfoldable pub IsChain : (ℕ → Option SlotAt) → List NodeAt → Type 0
IsChain at [] = Unit {0}
IsChain at (n ∷ rest) = (at n.place ≡ Some (Linked (stored_node n (first_place rest))))
    × IsChain at rest

-- The stamp of the slot's node or spare.
abbrev pub slot_stamp : SlotAt → ℕ
slot_stamp (Linked n) = n.stamp
slot_stamp (Out stamp) = stamp

-- The stamp of the spare that the slot is kept for. None if the slot is kept for no spare.
abbrev pub out_stamp : Option SlotAt → Option ℕ
out_stamp None = None
out_stamp (Some (Linked n)) = None
out_stamp (Some (Out stamp)) = Some stamp

-- The linked nodes of a slab.
unfoldable pub nodes_in : Slab SlotAt → ℕ → List NodeAt
nodes_in slab head = walk (slab_len slab) (get slab) (Some head)

-- The list as contracts see it, computed from its fields.
abbrev pub listing_of : Slab SlotAt → ℕ → ℕ → ℕ → Listing
listing_of slab head changes last = record {
  nodes = nodes_in slab head;
  head = head;
  out = map out_stamp slab.slots;
  changes = changes;
  last = last;
}

-- The first of these nodes is the dummy of bucket 0, at this place.
pub record StartsWithHead (nodes : List NodeAt) (head : ℕ) : Type 0 where
  pub node : NodeAt
  pub is : first nodes ≡ Some node
  pub place : node.place ≡ head
  pub at : node.at ≡ dummy_at 0
  pub kind : node.kind ≡ Dummy

-- The slots hold these linked nodes, in the order of the list.
pub record IsLaidOut (slab : Slab SlotAt) (head : ℕ) (nodes : List NodeAt) : Type 0 where
  pub chain : IsChain (get slab) nodes
  pub starts : StartsWithHead nodes head
  pub rising : IsRising nodes
  pub plain : AllPlain nodes
  pub all : (place : ℕ) (node : Node) → get slab place ≡ Some (Linked node) → IsLinked nodes place

-- No stamp is above the last stamp, and no two places have the same stamp.
pub record HasStamps (slab : Slab SlotAt) (last : ℕ) : Type 0 where
  pub bound : (place : ℕ) (slot : SlotAt) → get slab place ≡ Some slot → slot_stamp slot ≤ last
  pub one_place : (p q : ℕ) (s t : SlotAt) → get slab p ≡ Some s → get slab q ≡ Some t
      → slot_stamp s ≡ slot_stamp t → p ≡ q

-- The slab and these numbers meet the invariant of a list's fields. `marked` is the number of all
-- marked nodes. The counts of the regions are not part of this.
pub record IsKept (slab : Slab SlotAt) (head last count marked : ℕ) : Type 0 where
  pub laid_out : IsLaidOut slab head (nodes_in slab head)
  pub stamps : HasStamps slab last
  pub below : last < 2 ^ 64 - 1
  pub counted : count ≡ live_count (nodes_in slab head)
  pub marks : marked ≡ marked_count (nodes_in slab head)

-- The fields of a list meet their invariant, and each region has the right count of marked nodes.
pub record IsWhole (slab : Slab SlotAt) (head last count : ℕ) (marks : TallyAt) : Type 0 where
  pub kept : IsKept slab head last count marks.total
  pub tallied : IsTallied marks (nodes_in slab head)
