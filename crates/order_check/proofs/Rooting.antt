-- The beginning of a search, its next root, and its end.
use Rattle.std.proofs.Common.{◌≡◌, ℕ, zero, suc, ◌+◌, ◌<◌, ◌≤◌, List, [], ◌∷◌, ◌++◌, length, reverse, replicate, set, get_or, Some, refl, ap, sym, ◌∙◌, subst, arith}
use Rattle.std.specs.Prelude.{slice_get}
use Rattle.std.specs.declared.vec.Vec.{Vec}
use Rattle.std.specs.declared.alloc.Global.{Global}
use Rattle.std.proofs.lemmas.Bool.{cases_lt}
use Rattle.std.proofs.lemmas.List.{length-replicate}
use mathlib.Core.Logic.{inl, inr}
use Rattle.order_check.specs.declared.link.Link.{Link}
use Rattle.order_check.specs.declared.search.Mark.{Mark}
use Rattle.order_check.specs.declared.search.Mark.TheVariants.{New, Open, Done}
use Rattle.order_check.specs.declared.search.Visit.{Visit}
use Rattle.order_check.specs.Lists.{IsIn, HasEachOnce}
use Rattle.order_check.specs.Graphs.{Graph, edges_of, KeepsEdges}
use Rattle.order_check.specs.Search.{unvisited, mark_in, next_in, Searches, IsSearch, StaysVisited}
use Rattle.order_check.proofs.SearchSteps.{opened}
use Rattle.order_check.proofs.SearchTurns.{visit_is, wrote, next_all, stays_visited, not_new_open, Kept}

all_fresh : (n u : ℕ) → get_or (replicate n unvisited) u unvisited ≡ unvisited
all_fresh zero u = refl
all_fresh (suc n) zero = refl
all_fresh (suc n) (suc u) = all_fresh n u

new_open : New ≡ Open → ⊥
new_open is = cc is

new_done : New ≡ Done → ⊥
new_done is = cc is

-- Before the first root.
pub at_first : (graph : Graph) (vs : List Visit) (path order : List ℕ) → vs ≡ replicate (length graph) unvisited → path ≡ [] → order ≡ [] → IsSearch graph vs path order
at_first graph vs path order vs_is path_is order_is =
    subst (λ p. IsSearch graph vs p order) (sym path_is) (subst (λ o. IsSearch graph vs [] o) (sym order_is) (subst (λ v. IsSearch graph v [] []) (sym vs_is) (record {
      len = length-replicate (length graph) unvisited;
      searches = record {
        in_order = λ u is_in. absurd is_in;
        done = λ u is. absurd (new_done (sym (mark u) ∙ is));
        apart = tt;
        early = λ u j l is_in there. absurd is_in;
        in_path = λ u is_in. absurd is_in;
        going = λ u is. absurd (new_open (sym (mark u) ∙ is));
        path_apart = tt;
        followed = λ u j l is_in there before. absurd is_in;
        chained = tt;
        fresh = λ u is. next u;
        within = λ u. within u (next u);
      };
    })))
  where
    mark : (u : ℕ) → mark_in (replicate (length graph) unvisited) u ≡ New
    mark u = ap (λ (v : Visit). v.mark) (all_fresh (length graph) u)

    next : (u : ℕ) → next_in (replicate (length graph) unvisited) u ≡ 0
    next u = ap (λ (v : Visit). v.next) (all_fresh (length graph) u)

    within : (u : ℕ) → next_in (replicate (length graph) unvisited) u ≡ 0 → next_in (replicate (length graph) unvisited) u ≤ length (edges_of graph u)
    within u is = omega arith

-- A root is opened.
pub rooting : (graph : Graph) (vs : List Visit) (path order : List ℕ) (root : ℕ) (w : Visit) (path' : List ℕ) → IsSearch graph vs path order → path ≡ [] → root < length graph → mark_in vs root ≡ New → w ≡ get_or vs root w → path' ≡ path ++ root ∷ []
    → Kept graph vs (set vs root (record { mark = Open; next = w.next })) path' order
rooting graph vs path order root w path' was idle in_range is_new is path_is =
    let below : root < length vs = omega (arith, was.len, in_range) in
    let v : Visit = record { mark = Open; next = w.next } in
    let new = wrote vs root v below in
    let next_is : w.next ≡ next_in vs root = ap (λ (x : Visit). x.next) (visit_is vs root w below is) in
    let searches : Searches graph (mark_in vs) (next_in vs) [] order = subst (λ p. Searches graph (mark_in vs) (next_in vs) (reverse p) order) idle was.searches in
    let whole : root ∷ [] ≡ reverse path' = sym (ap reverse (path_is ∙ ap (λ p. p ++ root ∷ []) idle)) in
    record {
      keeps = record {
        len = new.len ∙ was.len;
        searches =
            subst (λ p. Searches graph (mark_in (set vs root v)) (next_in (set vs root v)) p order) whole
            (opened graph (mark_in vs) (mark_in (set vs root v)) (next_in vs) (next_in (set vs root v)) [] order root searches in_range is_new new.mark_here new.mark_else (next_all vs (set vs root v) root v new next_is) tt);
      };
      visited = stays_visited vs (set vs root v) root v new not_new_open;
    }

pub root_open : (vs : List Visit) (root next : ℕ) → root < length vs → mark_in (set vs root (record { mark = Open; next = next })) root ≡ New → ⊥
root_open vs root next below is = not_new_open (sym (wrote vs root (record { mark = Open; next = next }) below).mark_here ∙ is)

-- All transactions below the root were visited.
abbrev pub AreVisited : List Visit → ℕ → Type 0
AreVisited vs root = (u : ℕ) → u < root → mark_in vs u ≡ New → ⊥

pub visited_more : (old new : List Visit) (root : ℕ) → AreVisited old root → StaysVisited old new → (mark_in new root ≡ New → ⊥) → AreVisited new (root + 1)
visited_more old new root all stays here u less is = elim (cases_lt u root) [
  | inl before ↦ all u before (stays u is)
  | inr not_before ↦ let same : u ≡ root = omega arith in here (ap (mark_in new) (sym same) ∙ is)
]

edge_below : (graph : Graph) (u j : ℕ) (l : Link) → slice_get (edges_of graph u) j ≡ Some l → u < length graph
edge_below [] u j l there = absurd (cc there)
edge_below (row ∷ graph) zero j l there = omega arith
edge_below (row ∷ graph) (suc u) j l there = let rest = edge_below graph u j l there in omega arith

-- After the last root.
module _ (graph : Graph) (vs : List Visit) (path order : List ℕ) (is : IsSearch graph vs path order) (idle : path ≡ []) (root : ℕ) (end : length graph ≤ root) (visited : AreVisited vs root) where
  searches : Searches graph (mark_in vs) (next_in vs) [] order
  searches = subst (λ p. Searches graph (mark_in vs) (next_in vs) (reverse p) order) idle is.searches

  ordered : (t : ℕ) → t < length graph → IsIn t order
  ordered t below = at (mark_in vs t) refl
    where
      at : (m : Mark) → mark_in vs t ≡ m → IsIn t order
      at New new = absurd (visited t (omega arith) new)
      at Open now = absurd (searches.going t now)
      at Done now = searches.done t now

  pub each_once : HasEachOnce (λ t. t < length graph) order
  each_once = record { apart = searches.apart; all = ordered; only = λ t is_in. (searches.in_order t is_in).0 }

  pub keeps_edges : KeepsEdges graph order
  keeps_edges u l edge = (searches.early u edge.number l (ordered u (edge_below graph u edge.number l edge.there)) edge.there).1

pub same_search : (graph : Graph) (v v' : Vec Visit Global) (p p' o o' : Vec ℕ Global) → v ≡ v' → p ≡ p' → o ≡ o' → IsSearch graph v'.items p'.items o'.items → IsSearch graph v.items p.items o.items
same_search graph v v' p p' o o' v_is p_is o_is was =
    subst (λ (x : Vec Visit Global). IsSearch graph x.items p.items o.items) (sym v_is)
    (subst (λ (x : Vec ℕ Global). IsSearch graph v'.items x.items o.items) (sym p_is)
    (subst (λ (x : Vec ℕ Global). IsSearch graph v'.items p'.items x.items) (sym o_is) was))

pub same_visited : (v v' : Vec Visit Global) (root : ℕ) → v ≡ v' → AreVisited v'.items root → AreVisited v.items root
same_visited v v' root v_is was = subst (λ (x : Vec Visit Global). AreVisited x.items root) (sym v_is) was
