-- The contents of a slab's places.
use Rattle.std.specs.Prelude.{ℕ, Option, Some, None, if◌then◌else◌}
use Rattle.node_list.specs.declared.node.Node.{Node}

-- A linked node, or the stamp of a spare whose place is kept.
pub data SlotAt : Type 0 where
  Linked : Node → SlotAt
  Out : ℕ → SlotAt

-- The contents of the slot in which this node is stored: a linked node, or the stamp of a spare.
abbrev pub slot_of : Node → SlotAt
slot_of n = if n.is_linked then Linked n else Out n.stamp

-- The linked node at a place, if there is one.
abbrev pub node_in : Option SlotAt → Option Node
node_in None = None
node_in (Some (Linked n)) = Some n
node_in (Some (Out stamp)) = None
