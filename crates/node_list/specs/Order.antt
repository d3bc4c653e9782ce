-- PROMISES nodes-and-cursors: IsRising
-- The order of nodes, and their places.
use Rattle.std.specs.Prelude.{◌≡◌, ◌≢◌, ℕ, List, [], ◌∷◌, Some}
use Rattle.std.specs.List.{AllByRecursion}
use Rattle.split_key.specs.declared.sort.SortKey.{SortKey}
use Rattle.split_key.specs.Sort.{IsBefore}
use Rattle.node_list.specs.Nodes.{NodeAt, node_of, next_of}

-- The first node belongs before the second.
abbrev pub IsNodeBefore : NodeAt → NodeAt → Type 0
IsNodeBefore n m = IsBefore n.at m.at

-- Each node belongs before all nodes that follow it in the list.
unfoldable pub IsRising : List NodeAt → Type 0
IsRising [] = Unit {0}
IsRising (n ∷ rest) = AllByRecursion (IsNodeBefore n) rest × IsRising rest

-- A node with this sort key belongs right after the node at the place `pred`, and no node has this
-- sort key yet.
pub record IsVacant (nodes : List NodeAt) (pred : ℕ) (at : SortKey) : Type 0 where
  pub node : NodeAt
  pub is : node_of nodes pred ≡ Some node
  pub below : IsBefore node.at at
  pub above : (next : NodeAt) → next_of nodes pred ≡ Some next → IsBefore at next.at

-- None of these nodes is at the place.
abbrev pub AbsentFrom : ℕ → List NodeAt → Type 0
AbsentFrom place nodes = AllByRecursion (λ n. n.place ≢ place) nodes

-- No two nodes are at the same place.
unfoldable pub IsSpread : List NodeAt → Type 0
IsSpread [] = Unit {0}
IsSpread (n ∷ rest) = AbsentFrom n.place rest × IsSpread rest
