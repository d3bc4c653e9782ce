-- Shows that a search that meets an open transaction has found a cycle of edges, because it follows
-- an edge of each open transaction to the next one.
use Rattle.std.proofs.Common.{◌≡◌, ℕ, zero, suc, ◌+◌, ◌-◌, ◌<◌, List, [], ◌∷◌, ◌++◌, length, reverse, get_or, vec_len, refl, ap, sym, ◌∙◌, subst, arith}
use Rattle.std.specs.declared.vec.Vec.{Vec}
use Rattle.std.specs.declared.alloc.Global.{Global}
use Rattle.std.proofs.lemmas.List.{get_or-reverse, length-reverse, get_or_default}
use Rattle.std.proofs.lemmas.Option.{slice_get_within}
use Rattle.std.proofs.lemmas.Bool.{cases_lt}
use mathlib.Core.Logic.{◌⊎◌, inl, inr}
use Rattle.order_check.specs.declared.link.Link.{Link}
use Rattle.order_check.specs.declared.search.Visit.{Visit}
use Rattle.order_check.specs.Lists.{IsIn}
use Rattle.order_check.specs.Graphs.{Graph, edges_of, HasEdge, IsRoute, IsRing}
use Rattle.order_check.specs.Search.{unvisited, next_in, Follows, AreChained, IsSearch, MeetsOpen}
use Rattle.order_check.proofs.SearchTurns.{edge_there, visit_is}
use Rattle.order_check.proofs.Work.{row_is}

in_at : (xs : List ℕ) (k : ℕ) → k < length xs → IsIn (get_or xs k 0) xs
in_at [] k below = absurd (omega arith)
in_at (x ∷ xs) zero below = inl refl
in_at (x ∷ xs) (suc k) below = inr (in_at xs k (omega arith))

place_in : (xs : List ℕ) (t : ℕ) → IsIn t xs → (k : ℕ) × (k < length xs) × (get_or xs k 0 ≡ t)
place_in [] t is_in = absurd is_in
place_in (x ∷ xs) t is_in = elim is_in [
  | inl same ↦ (0, omega arith, same)
  | inr rest ↦ let p = place_in xs t rest in (suc p.0, omega (arith, p.1), p.2)
]

-- What comes before the place in the list, or `start` at the first place.
abbrev pub before_at : ℕ → List ℕ → ℕ → ℕ
before_at start xs zero = start
before_at start xs (suc k) = get_or xs k 0

chain_at : (graph : Graph) (next : ℕ → ℕ) (start t : ℕ) (us : List ℕ) → AreChained graph next (t ∷ us) → Follows graph next t start → (k : ℕ) → k < length (t ∷ us) → Follows graph next (get_or (t ∷ us) k 0) (before_at start (t ∷ us) k)
chain_at graph next start t us chained first zero below = first
chain_at graph next start t [] chained first (suc k) below = absurd (omega arith)
chain_at graph next start t (u ∷ us) chained first (suc zero) below = chained.0
chain_at graph next start t (u ∷ us) chained first (suc (suc k)) below = chain_at graph next t u us chained.1 chained.0 (suc k) (omega arith)

-- The open transactions from the newest on, with the transaction `start` to which the search came
-- back.
pub record Circle (graph : Graph) (visits : List Visit) (path : List ℕ) (start : ℕ) : Type 0 where
  pub some : 0 < length path
  pub len : length visits ≡ length graph
  pub below : (k : ℕ) → k < length path → get_or (reverse path) k 0 < length graph
  pub leads : (k : ℕ) → k < length path → Follows graph (next_in visits) (get_or (reverse path) k 0) (before_at start (reverse path) k)
  pub met : (k : ℕ) × (k < length path) × (get_or (reverse path) k 0 ≡ start)

pub circle_of : (graph : Graph) (visits : List Visit) (path order : List ℕ) → IsSearch graph visits path order → (stuck : MeetsOpen graph (next_in visits) (reverse path)) → Circle graph visits path stuck.from
circle_of graph visits path order is stuck =
    let len : length path ≡ length (reverse path) = sym (length-reverse path) in
    let whole : length (reverse path) ≡ length (stuck.top ∷ stuck.rest) = ap length stuck.path_is in
    let chained : AreChained graph (next_in visits) (stuck.top ∷ stuck.rest) = subst (AreChained graph (next_in visits)) stuck.path_is is.searches.chained in
    let there = place_in (reverse path) stuck.from stuck.is_in in
    record {
      some = omega arith;
      len = is.len;
      below = λ k less. (is.searches.in_path (get_or (reverse path) k 0) (in_at (reverse path) k (omega arith))).0;
      leads = λ k less. subst (λ p. Follows graph (next_in visits) (get_or p k 0) (before_at stuck.from p k)) (sym stuck.path_is) (chain_at graph (next_in visits) stuck.from stuck.top stuck.rest chained stuck.leads k (omega arith));
      met = (there.0, omega (arith, there.1), there.2);
    }

-- The element of the path that the code reads.
pub newest_at : (path : List ℕ) (k u : ℕ) → k < length path → u ≡ get_or path (length path - 1 - k) u → u ≡ get_or (reverse path) k 0
newest_at path k u below is = is ∙ sym (get_or-reverse path k u below) ∙ default (reverse path) k u 0 (omega (arith, length-reverse path))
  where
    default : (xs : List ℕ) (k d e : ℕ) → k < length xs → get_or xs k d ≡ get_or xs k e
    default [] k d e below = absurd (omega arith)
    default (x ∷ xs) zero d e below = refl
    default (x ∷ xs) (suc k) d e below = default xs k d e (omega arith)

-- The code may read the next edge of each element of the path.
pub may_read : (graph : Graph) (visits : List Visit) (path : List ℕ) (start k u : ℕ) (row : Vec Link Global) (a : Visit) → Circle graph visits path start → k < length path → u ≡ get_or (reverse path) k 0 → row ≡ get_or graph u row → a ≡ get_or visits u a → a.next < vec_len row
may_read graph visits path start k u row a circle less at row_here a_here =
    let below : u < length graph = subst (λ x. x < length graph) (sym at) (circle.below k less) in
    let in_visits : u < length visits = omega (arith, circle.len) in
    let f : Follows graph (next_in visits) u (before_at start (reverse path) k) = subst (λ x. Follows graph (next_in visits) x (before_at start (reverse path) k)) (sym at) (circle.leads k less) in
    let within = slice_get_within (edges_of graph u) (next_in visits u) f.edge f.there in
    let next_is : a.next ≡ next_in visits u = ap (λ (x : Visit). x.next) (visit_is visits u a in_visits a_here) in
    let same : length (edges_of graph u) ≡ length row.items = ap length (row_is graph u row below row_here) in
    let ok : vec_len row ≡ length row.items = row.ok.0 in
    omega arith

-- The edge that the code reads at the place leads to the element from the one before.
pub record Read (graph : Graph) (start : ℕ) (path : List ℕ) (k u : ℕ) (l : Link) : Type 0 where
  pub from_is : l.from ≡ before_at start (reverse path) k
  pub there : HasEdge graph l u

pub read_at : (graph : Graph) (visits : List Visit) (path : List ℕ) (start k u : ℕ) (row : Vec Link Global) (a : Visit) (l : Link) → Circle graph visits path start → k < length path → u ≡ get_or (reverse path) k 0 → row ≡ get_or graph u row → a ≡ get_or visits u a → l ≡ get_or row.items a.next l → Read graph start path k u l
read_at graph visits path start k u row a l circle less at row_here a_here l_here =
    let below : u < length graph = subst (λ x. x < length graph) (sym at) (circle.below k less) in
    let in_row = may_read graph visits path start k u row a circle less at row_here a_here in
    let there = edge_there graph visits u row a l below circle.len row_here a_here in_row l_here in
    let f : Follows graph (next_in visits) u (before_at start (reverse path) k) = subst (λ x. Follows graph (next_in visits) x (before_at start (reverse path) k)) (sym at) (circle.leads k less) in
    let same : f.edge ≡ l = cc (sym f.there ∙ there) in
    record { from_is = ap (λ (x : Link). x.from) (sym same) ∙ f.from_is; there = record { number = next_in visits u; there = there } }

-- The edges so far lead from `start` to `u`.
pub record Trail (leads : Link → ℕ → Type 0) (start : ℕ) (edges : List Link) (u : ℕ) : Type 0 where
  pub first : Link
  pub others : List Link
  pub edges_are : edges ≡ first ∷ others
  pub from_is : first.from ≡ start
  pub way : IsRoute leads first others u

way_push : (leads : Link → ℕ → Type 0) (l : Link) (ls : List Link) (m : Link) (t u : ℕ) → IsRoute leads l ls t → m.from ≡ t → leads m u → IsRoute leads l (ls ++ m ∷ []) u
way_push leads l [] m t u way from_is there = (subst (leads l) (sym from_is) way, there)
way_push leads l (n ∷ ns) m t u way from_is there = (way.0, way_push leads n ns m t u way.1 from_is there)

pub trail_one : (leads : Link → ℕ → Type 0) (start u : ℕ) (l : Link) → l.from ≡ start → leads l u → Trail leads start (l ∷ []) u
trail_one leads start u l from_is there = record { first = l; others = []; edges_are = refl; from_is = from_is; way = there }

pub trail_push : (leads : Link → ℕ → Type 0) (start t u : ℕ) (l : Link) (edges : List Link) → Trail leads start edges t → l.from ≡ t → leads l u → Trail leads start (edges ++ l ∷ []) u
trail_push leads start t u l edges trail from_is there = record {
  first = trail.first;
  others = trail.others ++ l ∷ [];
  edges_are = ap (λ ls. ls ++ l ∷ []) trail.edges_are;
  from_is = trail.from_is;
  way = way_push leads trail.first trail.others l t u trail.way from_is there;
}

-- What the loop has collected before the place.
pub record Collected (graph : Graph) (start : ℕ) (path : List ℕ) (k : ℕ) (edges : List Link) : Type 0 where
  pub none : k ≡ 0 → edges ≡ []
  pub trail : (j : ℕ) → k ≡ suc j → Trail (HasEdge graph) start edges (get_or (reverse path) j 0)
  pub unmet : (j : ℕ) → j < k → get_or (reverse path) j 0 ≡ start → ⊥

pub collected_none : (graph : Graph) (start : ℕ) (path : List ℕ) (edges : List Link) → edges ≡ [] → Collected graph start path 0 edges
collected_none graph start path edges none = record { none = λ is. none; trail = λ j is. absurd (omega arith); unmet = λ j less. absurd (omega arith) }

pub trail_more : (graph : Graph) (start : ℕ) (path : List ℕ) (k u : ℕ) (l : Link) (edges edges' : List Link) → Collected graph start path k edges → Read graph start path k u l → edges' ≡ edges ++ l ∷ [] → Trail (HasEdge graph) start edges' u
trail_more graph start path zero u l edges edges' c r is =
    subst (λ ls. Trail (HasEdge graph) start ls u) (sym (is ∙ ap (λ ls. ls ++ l ∷ []) (c.none refl))) (trail_one (HasEdge graph) start u l r.from_is r.there)
trail_more graph start path (suc j) u l edges edges' c r is =
    subst (λ ls. Trail (HasEdge graph) start ls u) (sym is) (trail_push (HasEdge graph) start (get_or (reverse path) j 0) u l edges (c.trail j refl) r.from_is r.there)

pub collected_more : (graph : Graph) (start : ℕ) (path : List ℕ) (k u : ℕ) (l : Link) (edges edges' : List Link) → Collected graph start path k edges → Read graph start path k u l → edges' ≡ edges ++ l ∷ [] → u ≡ get_or (reverse path) k 0 → (u ≡ start → ⊥) → Collected graph start path (k + 1) edges'
collected_more graph start path k u l edges edges' c r is at other = record {
  none = λ zero_is. absurd (omega arith);
  trail = λ j j_is. let same : k ≡ j = omega arith in subst (Trail (HasEdge graph) start edges') (at ∙ ap (λ n. get_or (reverse path) n 0) same) (trail_more graph start path k u l edges edges' c r is);
  unmet = λ j less here. elim (last_or k j less) [
    | inl before ↦ c.unmet j before here
    | inr last ↦ other (at ∙ ap (λ n. get_or (reverse path) n 0) (sym last) ∙ here)
  ];
}
  where
    last_or : (k j : ℕ) → j < k + 1 → (j < k) ⊎ (j ≡ k)
    last_or k j less = elim (cases_lt j k) [
      | inl before ↦ inl before
      | inr not_before ↦ inr (omega arith)
    ]

-- Back at `start`.
pub comes_round : (leads : Link → ℕ → Type 0) (start : ℕ) (edges : List Link) → Trail leads start edges start → IsRing leads edges
comes_round leads start edges t =
    subst (IsRing leads) (sym t.edges_are) (subst (IsRoute leads t.first t.others) (sym t.from_is) t.way)

pub at_back : (path : List ℕ) (k : ℕ) → k < length path → get_or path (length path - 1 - k) 0 ≡ get_or (reverse path) k 0
at_back path k less = sym (get_or-reverse path k 0 less)

pub at_top : (path : List ℕ) → 0 < length path → get_or path (length path - 1) 0 ≡ get_or (reverse path) 0 0
at_top path some =
    let same : length path - 1 ≡ length path - 1 - 0 = omega arith in
    ap (λ n. get_or path n 0) same ∙ at_back path 0 some

itself : (visits : List Visit) (u : ℕ) → u < length visits → get_or visits u unvisited ≡ get_or visits u (get_or visits u unvisited)
itself visits u below = get_or_default visits u unvisited (get_or visits u unvisited) below

module _ (graph : Graph) (visits : List Visit) (path : List ℕ) (start : ℕ) (circle : Circle graph visits path start) (k : ℕ) (less : k < length path) where
  -- The element of the path that the code reads is one of the transactions.
  pub u_below : get_or path (length path - 1 - k) 0 < length graph
  u_below = subst (λ x. x < length graph) (sym (at_back path k less)) (circle.below k less)

  pub u_visited : get_or path (length path - 1 - k) 0 < length visits
  u_visited = omega (arith, u_below, circle.len)

  module _ (row : Vec Link Global) (row_here : row ≡ get_or graph (get_or path (length path - 1 - k) 0) row) where
    pub u_may_read : (get_or visits (get_or path (length path - 1 - k) 0) unvisited).next < vec_len row
    u_may_read =
        may_read graph visits path start k (get_or path (length path - 1 - k) 0) row (get_or visits (get_or path (length path - 1 - k) 0) unvisited) circle less (at_back path k less) row_here (itself visits (get_or path (length path - 1 - k) 0) u_visited)

    pub u_read : (l : Link) → l ≡ get_or row.items (get_or visits (get_or path (length path - 1 - k) 0) unvisited).next l → Read graph start path k (get_or path (length path - 1 - k) 0) l
    u_read l l_here =
        read_at graph visits path start k (get_or path (length path - 1 - k) 0) row (get_or visits (get_or path (length path - 1 - k) 0) unvisited) l circle less (at_back path k less) row_here (itself visits (get_or path (length path - 1 - k) 0) u_visited) l_here

module _ (graph : Graph) (visits : List Visit) (path : List ℕ) (is : (order : List ℕ) × IsSearch graph visits path order) (stuck : MeetsOpen graph (next_in visits) (reverse path)) (row : Vec Link Global) (row_here : row ≡ get_or graph (get_or path (length path - 1) 0) row) where
  known : Circle graph visits path stuck.from
  known = circle_of graph visits path is.0 is.1 stuck

  top_visited : get_or path (length path - 1) 0 < length visits
  top_visited = let b = known.below 0 known.some in let e = at_top path known.some in omega (arith, known.len)

  -- The code may read the edge by which the search came back.
  pub may_start : (get_or visits (get_or path (length path - 1) 0) unvisited).next < vec_len row
  may_start =
      may_read graph visits path stuck.from 0 (get_or path (length path - 1) 0) row (get_or visits (get_or path (length path - 1) 0) unvisited) known known.some (at_top path known.some) row_here (itself visits (get_or path (length path - 1) 0) top_visited)

  pub circle_here : (l : Link) → l ≡ get_or row.items (get_or visits (get_or path (length path - 1) 0) unvisited).next l → Circle graph visits path l.from
  circle_here l l_here =
      let r = read_at graph visits path stuck.from 0 (get_or path (length path - 1) 0) row (get_or visits (get_or path (length path - 1) 0) unvisited) l known known.some (at_top path known.some) row_here (itself visits (get_or path (length path - 1) 0) top_visited) l_here in
      subst (Circle graph visits path) (sym r.from_is) known
