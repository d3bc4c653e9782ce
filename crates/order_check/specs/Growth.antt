-- How the edges of transactions grow.
use Rattle.std.specs.Prelude.{ℕ, ◌≡◌, [], length}
use mathlib.Core.Logic.{◌⊎◌}
use Rattle.order_check.specs.declared.link.Link.{Link}
use Rattle.order_check.specs.Graphs.{Graph, edges_of, HasEdge}

-- No transaction has an edge.
pub record AreEmpty (count : ℕ) (graph : Graph) : Type 0 where
  pub len : length graph ≡ count
  pub none : (u : ℕ) → edges_of graph u ≡ []

-- One transaction gets one more edge.
pub record Adds (edge : Link) (to : ℕ) (old new : Graph) : Type 0 where
  pub len : length new ≡ length old
  pub there : HasEdge new edge to
  pub stays : (u : ℕ) (l : Link) → HasEdge old l u → HasEdge new l u
  pub only : (u : ℕ) (l : Link) → HasEdge new l u → HasEdge old l u ⊎ ((u ≡ to) × (l ≡ edge))
