-- PROMISES nodes-and-cursors: Follows
-- Facts about nodes and spares that stay true while a list changes.
use Rattle.std.specs.Prelude.{◌≡◌, ℕ, ◌<◌, ◌≤◌, ◌-◌, ◌^◌, ◌⊎◌, Some}
use Rattle.node_list.specs.declared.node.Kind.TheVariants.{Dummy}
use Rattle.node_list.specs.Nodes.{NodeAt, Listing, node_of, out_at}
use Rattle.node_list.specs.Sound.{IsSound}

-- `n` and `m` are the same node at two times. Only its value and its mark may differ.
pub record IsSameNode (n m : NodeAt) : Type 0 where
  pub place : n.place ≡ m.place
  pub at : n.at ≡ m.at
  pub kind : n.kind ≡ m.kind
  pub stamp : n.stamp ≡ m.stamp

-- One of these three holds:
--
-- - The node was linked at this place before.
-- - The place was kept for a spare with the node's stamp.
-- - The node's stamp is above all earlier stamps.
abbrev pub WasThere : Listing → ℕ → NodeAt → Type 0
WasThere old place n =
    ((m : NodeAt) × (node_of old.nodes place ≡ Some m) × IsSameNode m n)
    ⊎ ((out_at old place ≡ Some n.stamp) ⊎ (old.last < n.stamp))

-- The node is still linked at this place.
abbrev pub IsStillThere : Listing → ℕ → NodeAt → Type 0
IsStillThere new place n = (m : NodeAt) × (node_of new.nodes place ≡ Some m) × IsSameNode n m

-- `new` is the list `old` at a later time. If `old` is sound, so is `new`. No stamp is used again,
-- a linked dummy stays linked, and the change number does not fall. If the change number is
-- unchanged and below 2^64 - 1, the nodes are unchanged too.
pub record Follows (old new : Listing) : Type 0 where
  pub sound : IsSound old → IsSound new
  pub last : old.last ≤ new.last
  pub changes : old.changes ≤ new.changes
  pub still : new.changes ≡ old.changes → new.changes < 2 ^ 64 - 1 → new.nodes ≡ old.nodes
  pub linked : (place : ℕ) (n : NodeAt) → node_of new.nodes place ≡ Some n → WasThere old place n
  pub out : (place stamp : ℕ) → out_at new place ≡ Some stamp
      → (out_at old place ≡ Some stamp) ⊎ (old.last < stamp)
  pub dummies : (place : ℕ) (n : NodeAt) → node_of old.nodes place ≡ Some n → n.kind ≡ Dummy
      → IsStillThere new place n
