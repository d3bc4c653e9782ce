-- Shows that each turn of the search keeps its invariant and leaves less to do, because it closes a
-- transaction, opens one or passes an edge.
use Rattle.std.proofs.Common.{◌≡◌, ◌==◌, ℕ, ◌+◌, ◌-◌, ◌<◌, ◌≤◌, Bool, false, List, [], ◌∷◌, ◌++◌, length, take, reverse, set, get_or, vec_len, Some, refl, ap, sym, ◌∙◌, subst, arith}
use Rattle.std.specs.Prelude.{slice_get}
use Rattle.std.specs.declared.vec.Vec.{Vec}
use Rattle.std.specs.declared.alloc.Global.{Global}
use Rattle.std.proofs.lemmas.Bool.{cases_eq, eqb-false}
use Rattle.std.proofs.lemmas.List.{take_more, take_all, reverse-append, get_or_default, get_or-set_same, get_or-set_other, length-set}
use Rattle.std.proofs.lemmas.Option.{slice_get_read}
use mathlib.Core.Logic.{inl, inr}
use Rattle.order_check.specs.declared.link.Link.{Link}
use Rattle.order_check.specs.declared.search.Mark.{Mark}
use Rattle.order_check.specs.declared.search.Mark.TheVariants.{New, Open, Done}
use Rattle.order_check.specs.declared.search.Visit.{Visit}
use Rattle.order_check.specs.Lists.{IsIn}
use Rattle.order_check.specs.Graphs.{Graph, edges_of}
use Rattle.order_check.specs.Search.{unvisited, mark_in, next_in, Searches, IsSearch, StaysVisited, MeetsOpen}
use Rattle.order_check.proofs.SearchSteps.{opened, passed, closed, open_new}
use Rattle.order_check.proofs.Work.{left_over, falls, row_is, weight}

last_parts : (path : List ℕ) (n d : ℕ) → length path ≡ n + 1 → path ≡ take n path ++ get_or path n d ∷ []
last_parts path n d len =
    let below : n < length path = omega arith in
    let whole : length path ≤ n + 1 = omega arith in
    sym (take_all (n + 1) path whole) ∙ take_more path n d below

newest : (path : List ℕ) (n top : ℕ) → length path ≡ n + 1 → top ≡ get_or path n top → reverse path ≡ top ∷ reverse (take n path)
newest path n top len is =
    ap reverse (last_parts path n top len) ∙ reverse-append (take n path) (get_or path n top ∷ []) ∙ ap (λ t. t ∷ reverse (take n path)) (sym is)

pub visit_is : (vs : List Visit) (u : ℕ) (w : Visit) → u < length vs → w ≡ get_or vs u w → w ≡ get_or vs u unvisited
visit_is vs u w below is = is ∙ get_or_default vs u w unvisited below

-- The newest open transaction.
pub record Turn (graph : Graph) (visits : List Visit) (path order : List ℕ) (top : ℕ) : Type 0 where
  pub rest : List ℕ
  pub rest_is : rest ≡ reverse (take (length path - 1) path)
  pub path_is : reverse path ≡ top ∷ rest
  pub len : length visits ≡ length graph
  pub searches : Searches graph (mark_in visits) (next_in visits) (top ∷ rest) order
  pub below : top < length graph
  pub is_open : mark_in visits top ≡ Open

pub turn_at : (graph : Graph) (visits : List Visit) (path order : List ℕ) (top : ℕ) → IsSearch graph visits path order → 0 < length path → top ≡ get_or path (length path - 1) top → Turn graph visits path order top
turn_at graph visits path order top is some at_top =
    let path_is : reverse path ≡ top ∷ reverse (take (length path - 1) path) = newest path (length path - 1) top (omega arith) at_top in
    let searches : Searches graph (mark_in visits) (next_in visits) (top ∷ reverse (take (length path - 1) path)) order = subst (λ p. Searches graph (mark_in visits) (next_in visits) p order) path_is is.searches in
    let there = searches.in_path top (inl refl) in
    record { rest = reverse (take (length path - 1) path); rest_is = refl; path_is = path_is; len = is.len; searches = searches; below = there.0; is_open = there.1 }

-- The same, from what the code knows.
pub turn : (graph : Graph) (visits : Vec Visit Global) (path order : Vec ℕ Global) (top len : ℕ) (empty : Bool) → IsSearch graph visits.items path.items order.items → empty ≡ (vec_len path == 0) → empty ≡ false → len ≡ vec_len path → top ≡ get_or path.items (len - 1) top
    → Turn graph visits.items path.items order.items top
turn graph visits path order top len empty is empty_is not_empty len_is at_top =
    let some : vec_len path ≡ 0 → ⊥ = eqb-false (vec_len path) 0 (sym empty_is ∙ not_empty) in
    let ok : vec_len path ≡ length path.items = path.ok.0 in
    turn_at graph visits.items path.items order.items top is (omega arith) (at_top ∙ ap (λ n. get_or path.items (n - 1) top) (len_is ∙ ok))

-- What a write to one visit changes.
pub record Wrote (vs new : List Visit) (u : ℕ) (v : Visit) : Type 0 where
  pub mark_here : mark_in new u ≡ v.mark
  pub next_here : next_in new u ≡ v.next
  pub mark_else : (q : ℕ) → (q ≡ u → ⊥) → mark_in new q ≡ mark_in vs q
  pub next_else : (q : ℕ) → (q ≡ u → ⊥) → next_in new q ≡ next_in vs q
  pub len : length new ≡ length vs

pub wrote : (vs : List Visit) (u : ℕ) (v : Visit) → u < length vs → Wrote vs (set vs u v) u v
wrote vs u v below = record {
  mark_here = ap (λ (w : Visit). w.mark) (get_or-set_same vs u v unvisited below);
  next_here = ap (λ (w : Visit). w.next) (get_or-set_same vs u v unvisited below);
  mark_else = λ q other. ap (λ (w : Visit). w.mark) (get_or-set_other vs u q v unvisited other);
  next_else = λ q other. ap (λ (w : Visit). w.next) (get_or-set_other vs u q v unvisited other);
  len = length-set vs u v;
}

-- If the next count stays, all next counts stay.
pub next_all : (vs new : List Visit) (u : ℕ) (v : Visit) → Wrote vs new u v → v.next ≡ next_in vs u → (q : ℕ) → next_in new q ≡ next_in vs q
next_all vs new u v w stays q = elim (cases_eq q u) [
  | inl here ↦ ap (next_in new) here ∙ w.next_here ∙ stays ∙ ap (next_in vs) (sym here)
  | inr other ↦ w.next_else q other
]

mark_all : (vs new : List Visit) (u : ℕ) (v : Visit) → Wrote vs new u v → v.mark ≡ mark_in vs u → (q : ℕ) → mark_in new q ≡ mark_in vs q
mark_all vs new u v w stays q = elim (cases_eq q u) [
  | inl here ↦ ap (mark_in new) here ∙ w.mark_here ∙ stays ∙ ap (mark_in vs) (sym here)
  | inr other ↦ w.mark_else q other
]

-- Who is new after a write to a transaction that is then visited was new before.
pub stays_visited : (vs new : List Visit) (u : ℕ) (v : Visit) → Wrote vs new u v → (v.mark ≡ New → ⊥) → StaysVisited vs new
stays_visited vs new u v w visited q is = elim (cases_eq q u) [
  | inl here ↦ absurd (visited (sym w.mark_here ∙ ap (mark_in new) (sym here) ∙ is))
  | inr other ↦ sym (w.mark_else q other) ∙ is
]

pub record Kept (graph : Graph) (vs new : List Visit) (path order : List ℕ) : Type 0 where
  pub keeps : IsSearch graph new path order
  pub visited : StaysVisited vs new

not_new_done : Done ≡ New → ⊥
not_new_done is = cc is

pub not_new_open : Open ≡ New → ⊥
not_new_open is = cc is

-- The newest open transaction is closed.
pub closing : (graph : Graph) (vs : List Visit) (path order : List ℕ) (top : ℕ) (w a : Visit) (path' order' : List ℕ) → Turn graph vs path order top → w ≡ get_or vs top w → a ≡ get_or vs top a → a.next ≡ length (edges_of graph top) → path' ≡ take (length path - 1) path → order' ≡ order ++ top ∷ []
    → Kept graph vs (set vs top (record { mark = Done; next = w.next })) path' order'
closing graph vs path order top w a path' order' t is is_a all path_is order_is =
    let below : top < length vs = omega (arith, t.len, t.below) in
    let v : Visit = record { mark = Done; next = w.next } in
    let new = wrote vs top v below in
    let same : w ≡ get_or vs top unvisited = visit_is vs top w below is in
    let next_is : w.next ≡ next_in vs top = ap (λ (x : Visit). x.next) same in
    record {
      keeps = record {
        len = new.len ∙ t.len;
        searches =
            subst (λ p. Searches graph (mark_in (set vs top v)) (next_in (set vs top v)) p order') (t.rest_is ∙ ap reverse (sym path_is))
            (subst (λ o. Searches graph (mark_in (set vs top v)) (next_in (set vs top v)) t.rest o) (sym order_is)
            (closed graph (mark_in vs) (mark_in (set vs top v)) (next_in vs) (next_in (set vs top v)) t.rest order top t.searches (sym (ap (λ (x : Visit). x.next) (visit_is vs top a below is_a)) ∙ all) new.mark_here new.mark_else (next_all vs (set vs top v) top v new next_is)));
      };
      visited = stays_visited vs (set vs top v) top v new not_new_done;
    }

-- A transaction that the newest open one needs is opened.
pub opening : (graph : Graph) (vs : List Visit) (path order : List ℕ) (top : ℕ) (l : Link) (w : Visit) (path' : List ℕ) → Turn graph vs path order top → slice_get (edges_of graph top) (next_in vs top) ≡ Some l → l.from < length graph → mark_in vs l.from ≡ New
    → w ≡ get_or vs l.from w → path' ≡ path ++ l.from ∷ [] → Kept graph vs (set vs l.from (record { mark = Open; next = w.next })) path' order
opening graph vs path order top l w path' t there in_range is_new is path_is =
    let below : l.from < length vs = omega (arith, t.len, in_range) in
    let v : Visit = record { mark = Open; next = w.next } in
    let new = wrote vs l.from v below in
    let same : w ≡ get_or vs l.from unvisited = visit_is vs l.from w below is in
    let next_is : w.next ≡ next_in vs l.from = ap (λ (x : Visit). x.next) same in
    let whole : l.from ∷ top ∷ t.rest ≡ reverse path' = ap (λ p. l.from ∷ p) (sym t.path_is) ∙ sym (reverse-append path (l.from ∷ [])) ∙ ap reverse (sym path_is) in
    record {
      keeps = record {
        len = new.len ∙ t.len;
        searches =
            subst (λ p. Searches graph (mark_in (set vs l.from v)) (next_in (set vs l.from v)) p order) whole
            (opened graph (mark_in vs) (mark_in (set vs l.from v)) (next_in vs) (next_in (set vs l.from v)) (top ∷ t.rest) order l.from t.searches in_range is_new new.mark_here new.mark_else
            (next_all vs (set vs l.from v) l.from v new next_is) (record { edge = l; there = there; from_is = refl }));
      };
      visited = stays_visited vs (set vs l.from v) l.from v new not_new_open;
    }

-- An edge from a transaction that is done is passed.
pub passing : (graph : Graph) (vs : List Visit) (path order : List ℕ) (top : ℕ) (l : Link) (w a : Visit) → Turn graph vs path order top → slice_get (edges_of graph top) (next_in vs top) ≡ Some l → mark_in vs l.from ≡ Done
    → w ≡ get_or vs top w → a ≡ get_or vs top a → Kept graph vs (set vs top (record { mark = w.mark; next = a.next + 1 })) path order
passing graph vs path order top l w a t there is_done is_w is_a =
    let below : top < length vs = omega (arith, t.len, t.below) in
    let v : Visit = record { mark = w.mark; next = a.next + 1 } in
    let new = wrote vs top v below in
    let mark_is : w.mark ≡ mark_in vs top = ap (λ (x : Visit). x.mark) (visit_is vs top w below is_w) in
    let next_is : a.next ≡ next_in vs top = ap (λ (x : Visit). x.next) (visit_is vs top a below is_a) in
    record {
      keeps = record {
        len = new.len ∙ t.len;
        searches =
            subst (λ p. Searches graph (mark_in (set vs top v)) (next_in (set vs top v)) p order) (sym t.path_is)
            (passed graph (mark_in vs) (mark_in (set vs top v)) (next_in vs) (next_in (set vs top v)) t.rest order top l t.searches there is_done (mark_all vs (set vs top v) top v new mark_is) (new.next_here ∙ ap (λ n. n + 1) next_is) new.next_else);
      };
      visited = stays_visited vs (set vs top v) top v new (λ is_new. open_new (mark_in vs top) t.is_open (sym mark_is ∙ is_new));
    }

-- The edge that the code reads.
pub edge_there : (graph : Graph) (vs : List Visit) (top : ℕ) (row : Vec Link Global) (a : Visit) (l : Link) → top < length graph → length vs ≡ length graph → row ≡ get_or graph top row → a ≡ get_or vs top a → a.next < vec_len row → l ≡ get_or row.items a.next l
    → slice_get (edges_of graph top) (next_in vs top) ≡ Some l
edge_there graph vs top row a l below len row_here a_here in_row l_here =
    let in_vs : top < length vs = omega (arith, len, below) in
    let next_is : a.next ≡ next_in vs top = ap (λ (x : Visit). x.next) (visit_is vs top a in_vs a_here) in
    ap (λ ls. slice_get ls (next_in vs top)) (row_is graph top row below row_here) ∙ ap (slice_get row.items) (sym next_is)
    ∙ slice_get_read row.items (vec_len row) a.next l row.ok.0 in_row l_here

-- The index of the next edge is not past the end.
pub next_within : (graph : Graph) (vs : List Visit) (path order : List ℕ) (top : ℕ) (row : Vec Link Global) (a : Visit) → Turn graph vs path order top → row ≡ get_or graph top row → a ≡ get_or vs top a → (a.next ≤ vec_len row) × (length (edges_of graph top) ≡ vec_len row)
next_within graph vs path order top row a t row_here a_here =
    let below : top < length vs = omega (arith, t.len, t.below) in
    let next_is : a.next ≡ next_in vs top = ap (λ (x : Visit). x.next) (visit_is vs top a below a_here) in
    let row_same : length (edges_of graph top) ≡ length row.items = ap length (row_is graph top row t.below row_here) in
    let within : next_in vs top ≤ length (edges_of graph top) = t.searches.within top in
    let ok : vec_len row ≡ length row.items = row.ok.0 in
    (omega arith, omega arith)

weight_is : (m n : Mark) → m ≡ n → weight m ≡ weight n
weight_is m n is = ap weight is

-- Each turn leaves less to do.
pub closing_falls : (graph : Graph) (vs : List Visit) (path order : List ℕ) (top : ℕ) (w : Visit) → Turn graph vs path order top → w ≡ get_or vs top w → left_over graph (set vs top (record { mark = Done; next = w.next })) < left_over graph vs
closing_falls graph vs path order top w t is =
    let below : top < length vs = omega (arith, t.len, t.below) in
    let next_is : w.next ≡ next_in vs top = ap (λ (x : Visit). x.next) (visit_is vs top w below is) in
    let heavy : weight (mark_in vs top) ≡ 1 = weight_is (mark_in vs top) Open t.is_open in
    falls graph vs top (record { mark = Done; next = w.next }) t.below t.len (omega arith)

pub opening_falls : (graph : Graph) (vs : List Visit) (from : ℕ) (w : Visit) → from < length graph → length vs ≡ length graph → mark_in vs from ≡ New → w ≡ get_or vs from w → left_over graph (set vs from (record { mark = Open; next = w.next })) < left_over graph vs
opening_falls graph vs from w in_range len is_new is =
    let below : from < length vs = omega (arith, len, in_range) in
    let next_is : w.next ≡ next_in vs from = ap (λ (x : Visit). x.next) (visit_is vs from w below is) in
    let heavy : weight (mark_in vs from) ≡ 2 = weight_is (mark_in vs from) New is_new in
    falls graph vs from (record { mark = Open; next = w.next }) in_range len (omega arith)

pub passing_falls : (graph : Graph) (vs : List Visit) (path order : List ℕ) (top : ℕ) (w a : Visit) → Turn graph vs path order top → w ≡ get_or vs top w → a ≡ get_or vs top a → a.next < length (edges_of graph top) → left_over graph (set vs top (record { mark = w.mark; next = a.next + 1 })) < left_over graph vs
passing_falls graph vs path order top w a t is_w is_a less =
    let below : top < length vs = omega (arith, t.len, t.below) in
    let next_is : a.next ≡ next_in vs top = ap (λ (x : Visit). x.next) (visit_is vs top a below is_a) in
    let mark_is : w.mark ≡ mark_in vs top = ap (λ (x : Visit). x.mark) (visit_is vs top w below is_w) in
    let same : weight w.mark ≡ weight (mark_in vs top) = ap weight mark_is in
    falls graph vs top (record { mark = w.mark; next = a.next + 1 }) t.below t.len (omega arith)

-- The next edge comes from a transaction that is open.
pub stuck_at : (graph : Graph) (vs : List Visit) (path order : List ℕ) (top : ℕ) (l : Link) → Turn graph vs path order top → slice_get (edges_of graph top) (next_in vs top) ≡ Some l → mark_in vs l.from ≡ Open → MeetsOpen graph (next_in vs) (reverse path)
stuck_at graph vs path order top l t there is_open = record {
  top = top;
  rest = t.rest;
  path_is = t.path_is;
  from = l.from;
  leads = record { edge = l; there = there; from_is = refl };
  is_in = subst (IsIn l.from) (sym t.path_is) (t.searches.going l.from is_open);
}
