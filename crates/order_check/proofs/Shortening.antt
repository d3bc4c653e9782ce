-- Shows that the edges by which a walk is followed back are a cycle, because each comes from where the
-- one before leads.
use Rattle.std.proofs.Common.{◌≡◌, ℕ, ◌<◌, Some, List, [], ◌∷◌, ◌++◌, length, get_or, refl, ap, sym, ◌∙◌, subst}
use Rattle.std.specs.Prelude.{slice_get}
use Rattle.std.specs.declared.vec.Vec.{Vec}
use Rattle.std.specs.declared.alloc.Global.{Global}
use Rattle.std.proofs.lemmas.Option.{slice_get_read}
use mathlib.Core.Logic.{◌⊎◌, inl, inr}
use Rattle.order_check.specs.declared.link.Link.{Link}
use Rattle.order_check.specs.Graphs.{Graph, HasEdge, IsRoute, IsRing}
use Rattle.order_check.specs.Timing.{Leads}
use Rattle.order_check.proofs.CycleSearch.{Trail, trail_one, trail_push}
use Rattle.order_check.proofs.Work.{row_is}

pub has_edge : (graph : Graph) (u k : ℕ) (row : Vec Link Global) (l : Link) → u < length graph → row ≡ get_or graph u row → k < length row.items → l ≡ get_or row.items k l → HasEdge graph l u
has_edge graph u k row l below row_here less here = record {
  number = k;
  there = subst (λ ls. slice_get ls k ≡ Some l) (sym (row_is graph u row below row_here)) (slice_get_read row.items (length row.items) k l refl less here);
}

-- The edges so far lead from `start` to `u`, or there are none yet.
abbrev pub IsTrail : (Link → ℕ → Type 0) → ℕ → List Link → ℕ → Type 0
IsTrail leads start edges u = ((edges ≡ []) × (u ≡ start)) ⊎ Trail leads start edges u

pub trail_on : (leads : Link → ℕ → Type 0) (start t u : ℕ) (l : Link) (edges edges' : List Link) → IsTrail leads start edges t → l.from ≡ t → leads l u → edges' ≡ edges ++ l ∷ [] → Trail leads start edges' u
trail_on leads start t u l edges edges' so_far from_is there is = elim so_far [
  | inl none ↦
      subst (λ ls. Trail leads start ls u) (sym (is ∙ ap (λ ls. ls ++ l ∷ []) none.0)) (trail_one leads start u l (from_is ∙ none.1) there)
  | inr trail ↦
      subst (λ ls. Trail leads start ls u) (sym is) (trail_push leads start t u l edges trail from_is there)
]

way_leads : (since : ℕ → ℕ) (graph : Graph) (l : Link) (ls : List Link) (end : ℕ) → IsRoute (HasEdge graph) l ls end → IsRoute (Leads since graph) l ls end
way_leads since graph l [] end way = inl way
way_leads since graph l (m ∷ ms) end way = (inl way.0, way_leads since graph m ms end way.1)

pub cycle_leads : (since : ℕ → ℕ) (graph : Graph) (ls : List Link) → IsRing (HasEdge graph) ls → IsRing (Leads since graph) ls
cycle_leads since graph [] cycle = cycle
cycle_leads since graph (l ∷ ls) cycle = way_leads since graph l ls l.from cycle
