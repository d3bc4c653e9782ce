-- How the edges of transactions grow.
use Rattle.std.proofs.Common.{◌≡◌, ℕ, zero, suc, ◌+◌, ◌<◌, List, [], ◌∷◌, ◌++◌, length, set, get_or, Some, refl, ap, sym, ◌∙◌, subst, arith}
use Rattle.std.specs.Prelude.{slice_get}
use Rattle.std.specs.declared.vec.Vec.{Vec}
use Rattle.std.specs.declared.alloc.Global.{Global}
use Rattle.std.proofs.lemmas.Bool.{cases_eq}
use Rattle.std.proofs.lemmas.List.{length-set, length_push}
use mathlib.Core.Logic.{◌⊎◌, inl, inr}
use Rattle.order_check.specs.declared.link.Link.{Link}
use Rattle.order_check.specs.Graphs.{Graph, edges_of}
use Rattle.order_check.specs.Growth.{AreEmpty, Adds}
use Rattle.order_check.proofs.Work.{row_is}

edges-set_here : (graph : Graph) (u : ℕ) (row : Vec Link Global) → u < length graph → edges_of (set graph u row) u ≡ row.items
edges-set_here [] u row below = absurd (omega arith)
edges-set_here (r ∷ graph) zero row below = refl
edges-set_here (r ∷ graph) (suc u) row below = edges-set_here graph u row (omega arith)

edges-set_other : (graph : Graph) (u v : ℕ) (row : Vec Link Global) → (v ≡ u → ⊥) → edges_of (set graph u row) v ≡ edges_of graph v
edges-set_other [] u v row other = refl
edges-set_other (r ∷ graph) zero zero row other = absurd (other refl)
edges-set_other (r ∷ graph) zero (suc v) row other = refl
edges-set_other (r ∷ graph) (suc u) zero row other = refl
edges-set_other (r ∷ graph) (suc u) (suc v) row other = edges-set_other graph u v row (λ same. other (ap (λ n. suc n) same))

get_last : (xs : List Link) (x : Link) → slice_get (xs ++ x ∷ []) (length xs) ≡ Some x
get_last [] x = refl
get_last (y ∷ xs) x = get_last xs x

get_left : (xs : List Link) (x l : Link) (n : ℕ) → slice_get xs n ≡ Some l → slice_get (xs ++ x ∷ []) n ≡ Some l
get_left [] x l n there = absurd (cc there)
get_left (y ∷ xs) x l zero there = there
get_left (y ∷ xs) x l (suc n) there = get_left xs x l n there

pub get_cases : (xs : List Link) (x l : Link) (n : ℕ) → slice_get (xs ++ x ∷ []) n ≡ Some l → (slice_get xs n ≡ Some l) ⊎ (l ≡ x)
get_cases [] x l zero there = inr (cc there)
get_cases [] x l (suc n) there = absurd (cc there)
get_cases (y ∷ xs) x l zero there = inl there
get_cases (y ∷ xs) x l (suc n) there = get_cases xs x l n there

pub adds : (graph : Graph) (to : ℕ) (row new : Vec Link Global) (edge : Link) → to < length graph → row ≡ get_or graph to row → new.items ≡ row.items ++ edge ∷ [] → Adds edge to graph (set graph to new)
adds graph to row new edge below row_here new_is =
    let old_items : edges_of graph to ≡ row.items = row_is graph to row below row_here in
    let new_items : edges_of (set graph to new) to ≡ row.items ++ edge ∷ [] = edges-set_here graph to new below ∙ new_is in
    record {
      len = length-set graph to new;
      there = record { number = length row.items; there = ap (λ ls. slice_get ls (length row.items)) new_items ∙ get_last row.items edge };
      stays = λ u l has. elim (cases_eq u to) [
        | inl here ↦
            let was : slice_get row.items has.number ≡ Some l = ap (λ ls. slice_get ls has.number) (sym old_items) ∙ ap (λ v. slice_get (edges_of graph v) has.number) (sym here) ∙ has.there in
            record { number = has.number; there = ap (λ v. slice_get (edges_of (set graph to new) v) has.number) here ∙ ap (λ ls. slice_get ls has.number) new_items ∙ get_left row.items edge l has.number was }
        | inr other ↦ record { number = has.number; there = ap (λ ls. slice_get ls has.number) (edges-set_other graph to u new other) ∙ has.there }
      ];
      only = λ u l has. elim (cases_eq u to) [
        | inl here ↦
            let now : slice_get (row.items ++ edge ∷ []) has.number ≡ Some l = ap (λ ls. slice_get ls has.number) (sym new_items) ∙ ap (λ v. slice_get (edges_of (set graph to new) v) has.number) (sym here) ∙ has.there in
            elim (get_cases row.items edge l has.number now) [
              | inl before ↦ inl (record { number = has.number; there = ap (λ v. slice_get (edges_of graph v) has.number) here ∙ ap (λ ls. slice_get ls has.number) old_items ∙ before })
              | inr last ↦ inr (here, last)
            ]
        | inr other ↦ inl (record { number = has.number; there = ap (λ ls. slice_get ls has.number) (sym (edges-set_other graph to u new other)) ∙ has.there })
      ];
    }

edges-push : (graph : Graph) (row : Vec Link Global) → ((u : ℕ) → edges_of graph u ≡ []) → row.items ≡ [] → (u : ℕ) → edges_of (graph ++ row ∷ []) u ≡ []
edges-push [] row none empty zero = empty
edges-push [] row none empty (suc u) = refl
edges-push (r ∷ graph) row none empty zero = none 0
edges-push (r ∷ graph) row none empty (suc u) = edges-push graph row (λ v. none (suc v)) empty u

pub empty_more : (n : ℕ) (graph graph' : Graph) (row : Vec Link Global) → AreEmpty n graph → row.items ≡ [] → graph' ≡ graph ++ row ∷ [] → AreEmpty (n + 1) graph'
empty_more n graph graph' row was empty is =
    subst (AreEmpty (n + 1)) (sym is) (record { len = length_push graph row ∙ ap (λ k. k + 1) was.len; none = edges-push graph row was.none empty })
