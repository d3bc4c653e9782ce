-- Edges between transactions, orders that keep them, and cycles.
use Rattle.std.specs.Prelude.{ℕ, zero, suc, ◌≡◌, ◌<◌, Some, List, [], ◌∷◌, length, slice_get}
use Rattle.std.specs.declared.vec.Vec.{Vec}
use Rattle.std.specs.declared.alloc.Global.{Global}
use Rattle.order_check.specs.declared.edge.Edge.{Edge}
use Rattle.order_check.specs.declared.link.Link.{Link}
use Rattle.order_check.specs.declared.search.Found.{Found}
use Rattle.order_check.specs.declared.search.Found.TheVariants.{Order, Cycle}
use Rattle.order_check.specs.Lists.{place, HasEachOnce}

-- The edges of each transaction: from those that must come before it.
abbrev pub Graph : Type 0
Graph = List (Vec Link Global)

-- The edges of a transaction.
abbrev pub edges_of : Graph → ℕ → List Link
edges_of [] u = []
edges_of (row ∷ graph) zero = row.items
edges_of (row ∷ graph) (suc u) = edges_of graph u

-- One of the edges of `u`.
pub record HasEdge (graph : Graph) (l : Link) (u : ℕ) : Type 0 where
  pub number : ℕ
  pub there : slice_get (edges_of graph u) number ≡ Some l

-- Each edge comes from one of the transactions.
abbrev pub AreInRange : Graph → Type 0
AreInRange graph = (u : ℕ) (l : Link) → HasEdge graph l u → l.from < length graph

-- Each transaction comes after all from which it has edges.
abbrev pub KeepsEdges : Graph → List ℕ → Type 0
KeepsEdges graph ts = (u : ℕ) (l : Link) → HasEdge graph l u → place l.from ts < place u ts

-- The edge `l` leads to where the first of `ls` comes from, and so on. The last one leads to `end`.
abbrev pub IsWay : (Edge → ℕ → Type 0) → Edge → List Edge → ℕ → Type 0
IsWay leads l [] end = leads l end
IsWay leads l (m ∷ ms) end = leads l m.from × IsWay leads m ms end

-- Edges in a circle.
abbrev pub IsCycle : (Edge → ℕ → Type 0) → List Edge → Type 0
IsCycle leads [] = ⊥
IsCycle leads (l ∷ ls) = IsWay leads l ls l.from

-- The same of links.
abbrev pub IsRoute : (Link → ℕ → Type 0) → Link → List Link → ℕ → Type 0
IsRoute leads l [] end = leads l end
IsRoute leads l (m ∷ ms) end = leads l m.from × IsRoute leads m ms end

abbrev pub IsRing : (Link → ℕ → Type 0) → List Link → Type 0
IsRing leads [] = ⊥
IsRing leads (l ∷ ls) = IsRoute leads l ls l.from

-- An order of all transactions that keeps the edges, or a ring of links that lead so.
abbrev pub IsFound : (Link → ℕ → Type 0) → Graph → Found → Type 0
IsFound leads graph (Order ts) =
    HasEachOnce (λ t. t < length graph) ts.items × KeepsEdges graph ts.items
IsFound leads graph (Cycle ls) = IsRing leads ls.items
