-- The edges whose values come only once.
use Rattle.std.proofs.Common.{◌≡◌, ℕ, zero, suc, ◌+◌, ◌<◌, List, [], ◌∷◌, ◌++◌, length, get_or, Some, refl, ap, sym, ◌∙◌, subst, arith}
use Rattle.std.specs.Prelude.{slice_get}
use Rattle.std.specs.HashMap.{HashMap}
use Rattle.std.specs.declared.vec.Vec.{Vec}
use Rattle.std.specs.declared.alloc.Global.{Global}
use Rattle.std.proofs.lemmas.Bool.{cases_order}
use Rattle.std.proofs.lemmas.List.{length_push}
use Rattle.std.proofs.lemmas.Option.{slice_get-get_or}
use mathlib.Core.Logic.{inl, inr}
use Rattle.order_check.specs.declared.access.Access.{Access}
use Rattle.order_check.specs.declared.link.Link.{Link}
use Rattle.order_check.specs.declared.table.Doer.{Doer}
use Rattle.order_check.specs.Graphs.{Graph, edges_of, HasEdge}
use Rattle.order_check.specs.Tables.{Version}
use Rattle.order_check.specs.Outcomes.{IsOnce, AreOnce, AreCertain}
use Rattle.order_check.proofs.Adding.{get_cases}
use Rattle.order_check.proofs.Work.{row_is}

module _ {S : Type 0} (accesses : List Access) (writers : HashMap Version Doer S) where
  pub once_push : (all kept kept' : List Link) (i : ℕ) (d : Link) → i < length all → AreOnce accesses writers all kept → IsOnce accesses writers (get_or all i d) → kept' ≡ kept ++ get_or all i d ∷ [] → AreOnce accesses writers all kept'
  once_push all kept kept' i d below before once is n l there = elim (get_cases kept (get_or all i d) l n (ap (λ ls. slice_get ls n) (sym is) ∙ there)) [
    | inl early ↦ before n l early
    | inr last ↦ (i, slice_get-get_or all i d below ∙ ap Some (sym last), subst (IsOnce accesses writers) (sym last) once)
  ]

  edges_front : (graph : Graph) (row : Vec Link Global) (u : ℕ) → u < length graph → edges_of (graph ++ row ∷ []) u ≡ edges_of graph u
  edges_front [] row u below = absurd (omega arith)
  edges_front (r ∷ graph) row zero below = refl
  edges_front (r ∷ graph) row (suc u) below = edges_front graph row u (omega arith)

  edges_last : (graph : Graph) (row : Vec Link Global) (u : ℕ) → u ≡ length graph → edges_of (graph ++ row ∷ []) u ≡ row.items
  edges_last [] row zero is = refl
  edges_last [] row (suc u) is = absurd (omega arith)
  edges_last (r ∷ graph) row zero is = absurd (omega arith)
  edges_last (r ∷ graph) row (suc u) is = edges_last graph row u (omega arith)

  edges_past : (graph : Graph) (row : Vec Link Global) (u : ℕ) → length graph < u → edges_of (graph ++ row ∷ []) u ≡ []
  edges_past [] row zero past = absurd (omega arith)
  edges_past [] row (suc u) past = refl
  edges_past (r ∷ graph) row zero past = absurd (omega arith)
  edges_past (r ∷ graph) row (suc u) past = edges_past graph row u (omega arith)

  -- The transactions so far.
  pub record CertainTo (all : Graph) (i : ℕ) (kept : Graph) : Type 0 where
    pub len : length kept ≡ i
    pub certain : (u : ℕ) (l : Link) → HasEdge kept l u → HasEdge all l u × IsOnce accesses writers l

  pub certain_none : (all kept : Graph) → kept ≡ [] → CertainTo all 0 kept
  certain_none all kept is = subst (CertainTo all 0) (sym is) (record { len = refl; certain = λ u l has. absurd (cc has.there) })

  pub certain_more : (all kept kept' : Graph) (i : ℕ) (row new : Vec Link Global) → CertainTo all i kept → i < length all → row ≡ get_or all i row → AreOnce accesses writers row.items new.items → kept' ≡ kept ++ new ∷ [] → CertainTo all (i + 1) kept'
  certain_more all kept kept' i row new before below row_here once is = subst (CertainTo all (i + 1)) (sym is) (record {
    len = length_push kept new ∙ ap (λ n. n + 1) before.len;
    certain = λ u l has. elim (cases_order u (length kept)) [
      | inl last ↦
          let there : slice_get new.items has.number ≡ Some l = ap (λ ls. slice_get ls has.number) (sym (edges_last kept new u last)) ∙ has.there in
          let o = once has.number l there in
          let here : edges_of all u ≡ row.items = ap (edges_of all) (last ∙ before.len) ∙ row_is all i row below row_here in
          (record { number = o.0; there = ap (λ ls. slice_get ls o.0) here ∙ o.1 }, o.2)
      | inr other ↦ elim other [
        | inl front ↦ before.certain u l (record { number = has.number; there = ap (λ ls. slice_get ls has.number) (sym (edges_front kept new u front)) ∙ has.there })
        | inr past ↦ absurd (cc (sym (ap (λ ls. slice_get ls has.number) (edges_past kept new u past)) ∙ has.there))
      ]
    ];
  })

  pub certain_all : (all kept : Graph) (i : ℕ) → CertainTo all i kept → i ≡ length all → AreCertain accesses writers all kept
  certain_all all kept i before end = record { len = before.len ∙ end; certain = before.certain }
