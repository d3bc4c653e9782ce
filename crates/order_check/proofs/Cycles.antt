-- What shows that there is no order.
use Rattle.std.proofs.Common.{ℕ, ◌<◌, List, [], ◌∷◌, Option, Some, arith}
use Rattle.order_check.specs.Lists.{place}
use Rattle.order_check.specs.Footprints.{Footprint}
use Rattle.order_check.specs.Dependencies.{Needs, Writes}
use Rattle.order_check.specs.Orders.{IsOrderOf, HasNoOrder}
use Rattle.order_check.specs.declared.edge.Kind.{Kind}
use Rattle.order_check.specs.declared.edge.Kind.TheVariants.{Read, Replaced, Began}
use Rattle.order_check.specs.declared.edge.Edge.{Edge}
use Rattle.order_check.specs.Graphs.{IsWay, IsCycle}
use Rattle.order_check.specs.Forces.{dependency_of, Forces, OnlyThese}
use Rattle.order_check.proofs.Forced.{sourced_first, reads_forward, replaces_forward}

module _ (is_one : ℕ → Type 0) (footprints : ℕ → Footprint) (since : ℕ → ℕ) where
  -- A committed transaction needs a value that no transaction writes.
  pub no_writer : (u k n : ℕ) → is_one u → Needs (footprints u) k (Some n) → ((t : ℕ) → Writes (footprints t) k (Some n) → ⊥) → HasNoOrder is_one footprints since
  no_writer u k n in_u needs none ts order =
      let s = sourced_first footprints ts k n u order.runs (order.each.all u in_u) needs in
      none s.txn s.writes

  module _ (only : OnlyThese is_one footprints) (ts : List ℕ) (order : IsOrderOf is_one footprints since ts) where
    dependency_forward : (kind : Kind) (t u k : ℕ) (v : Option ℕ) → dependency_of kind footprints since t u k v → place t ts < place u ts
    dependency_forward Read t u k v edge = reads_forward footprints ts t u k v order.runs (order.each.all u (only u k edge.needs.cell edge.needs.there)) edge
    dependency_forward Began t u k v edge = order.in_time t u edge
    dependency_forward Replaced t u k v edge =
        replaces_forward footprints ts t u k v order.runs order.each.apart (order.each.all t (only t k edge.needs.cell edge.needs.there)) (order.each.all u (only u k edge.replaces.cell edge.replaces.there)) edge

    pub edge_forward : (l : Edge) (u : ℕ) → Forces footprints since l u → place l.from ts < place u ts
    edge_forward l u edge = dependency_forward l.kind l.from u l.key l.value edge

    way_forward : (l : Edge) (ls : List Edge) (end : ℕ) → IsWay (Forces footprints since) l ls end → place l.from ts < place end ts
    way_forward l [] end way = edge_forward l end way
    way_forward l (m ∷ ms) end way =
        let first = edge_forward l m.from way.0 in
        let rest = way_forward m ms end way.1 in
        omega arith

  -- Edges that force each other in a circle leave no order.
  pub cycle_no_order : OnlyThese is_one footprints → (ls : List Edge) → IsCycle (Forces footprints since) ls → HasNoOrder is_one footprints since
  cycle_no_order only [] cycle ts order = cycle
  cycle_no_order only (l ∷ ls) cycle ts order =
      let round = way_forward only ts order l ls l.from cycle in
      absurd (omega arith)
