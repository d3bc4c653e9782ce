-- How much a search has still to do.
use Rattle.std.proofs.Common.{◌≡◌, ℕ, zero, suc, ◌+◌, ◌-◌, ◌<◌, List, [], ◌∷◌, length, set, get_or, ap, sym, arith}
use Rattle.std.specs.declared.vec.Vec.{Vec}
use Rattle.std.specs.declared.alloc.Global.{Global}
use Rattle.order_check.specs.declared.link.Link.{Link}
use Rattle.order_check.specs.declared.search.Mark.{Mark}
use Rattle.order_check.specs.declared.search.Mark.TheVariants.{New, Open, Done}
use Rattle.order_check.specs.declared.search.Visit.{Visit}
use Rattle.order_check.specs.Graphs.{Graph, edges_of}
use Rattle.order_check.specs.Search.{unvisited}

abbrev pub weight : Mark → ℕ
weight New = 2
weight Open = 1
weight Done = 0

-- What is left to do for a transaction with `n` edges: each edge is passed once, and the transaction
-- is opened and closed once.
abbrev pub cost : ℕ → Visit → ℕ
cost n v = (n - v.next) + weight v.mark

abbrev pub left_over : Graph → List Visit → ℕ
left_over [] vs = 0
left_over (row ∷ graph) [] = 0
left_over (row ∷ graph) (v ∷ vs) = cost (length row.items) v + left_over graph vs

pub falls : (graph : Graph) (vs : List Visit) (u : ℕ) (v : Visit) → u < length graph → length vs ≡ length graph → cost (length (edges_of graph u)) v < cost (length (edges_of graph u)) (get_or vs u unvisited) → left_over graph (set vs u v) < left_over graph vs
falls [] vs u v below same less = absurd (omega arith)
falls (row ∷ graph) [] u v below same less = absurd (omega arith)
falls (row ∷ graph) (w ∷ vs) zero v below same less = omega arith
falls (row ∷ graph) (w ∷ vs) (suc u) v below same less =
    let rest = falls graph vs u v (omega arith) (omega arith) less in
    omega arith

pub row_is : (graph : Graph) (u : ℕ) (row : Vec Link Global) → u < length graph → row ≡ get_or graph u row → edges_of graph u ≡ row.items
row_is [] u row below is = absurd (omega arith)
row_is (r ∷ graph) zero row below is = ap (λ (x : Vec Link Global). x.items) (sym is)
row_is (r ∷ graph) (suc u) row below is = row_is graph u row (omega arith) is
