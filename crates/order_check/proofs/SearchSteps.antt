-- Shows that the steps of a search keep its invariant, because each changes the mark of one
-- transaction, and the others' chain of edges does not depend on it.
use Rattle.std.proofs.Common.{◌≡◌, ℕ, ◌+◌, ◌<◌, ◌≤◌, List, [], ◌∷◌, ◌++◌, length, Some, refl, ap, sym, ◌∙◌, subst, arith}
use Rattle.std.specs.Prelude.{slice_get}
use Rattle.std.proofs.lemmas.Bool.{cases_eq, cases_lt}
use Rattle.std.proofs.lemmas.Option.{slice_get_within}
use mathlib.Core.Logic.{inl, inr}
use Rattle.order_check.specs.declared.link.Link.{Link}
use Rattle.order_check.specs.declared.search.Mark.{Mark}
use Rattle.order_check.specs.declared.search.Mark.TheVariants.{New, Open, Done}
use Rattle.order_check.specs.Lists.{IsIn, place}
use Rattle.order_check.specs.Graphs.{Graph, edges_of}
use Rattle.order_check.specs.Search.{Follows, AreChained, Searches}
use Rattle.order_check.proofs.Places.{in_rest, in_left, in_right, in_parts, place-left, in_left-place, place-append, apart_push}

follows_same : (graph : Graph) (next next' : ℕ → ℕ) (u t : ℕ) → next' u ≡ next u → Follows graph next u t → Follows graph next' u t
follows_same graph next next' u t same f = record { edge = f.edge; there = ap (slice_get (edges_of graph u)) same ∙ f.there; from_is = f.from_is }

-- The chain does not depend on what is followed from the newest transaction.
same_chain : (graph : Graph) (next next' : ℕ → ℕ) (t : ℕ) (us : List ℕ) → ((u : ℕ) → IsIn u us → next' u ≡ next u) → AreChained graph next (t ∷ us) → AreChained graph next' (t ∷ us)
same_chain graph next next' t [] same chained = tt
same_chain graph next next' t (u ∷ us) same chained = (follows_same graph next next' u t (same u (inl refl)) chained.0, same_chain graph next next' u us (λ v is_in. same v (inr is_in)) chained.1)

chain_rest : (graph : Graph) (next : ℕ → ℕ) (t : ℕ) (us : List ℕ) → AreChained graph next (t ∷ us) → AreChained graph next us
chain_rest graph next t [] chained = tt
chain_rest graph next t (u ∷ us) chained = chained.1

same_all : (graph : Graph) (next next' : ℕ → ℕ) (us : List ℕ) → ((u : ℕ) → IsIn u us → next' u ≡ next u) → AreChained graph next us → AreChained graph next' us
same_all graph next next' [] same chained = tt
same_all graph next next' (t ∷ us) same chained = same_chain graph next next' t us (λ u is_in. same u (inr is_in)) chained

-- The newest open transaction is being searched for `t`, if there is one.
abbrev pub LeadsOn : Graph → (ℕ → ℕ) → List ℕ → ℕ → Type 0
LeadsOn graph next [] t = Unit {0}
LeadsOn graph next (u ∷ us) t = Follows graph next u t

more_chain : (graph : Graph) (next : ℕ → ℕ) (t : ℕ) (us : List ℕ) → LeadsOn graph next us t → AreChained graph next us → AreChained graph next (t ∷ us)
more_chain graph next t [] leads chained = tt
more_chain graph next t (u ∷ us) leads chained = (leads, chained)

pub done_new : (m : Mark) → m ≡ Done → m ≡ New → ⊥
done_new m done new = cc (sym done ∙ new)

pub open_new : (m : Mark) → m ≡ Open → m ≡ New → ⊥
open_new m going new = cc (sym going ∙ new)

pub open_done : (m : Mark) → m ≡ Open → m ≡ Done → ⊥
open_done m going done = cc (sym going ∙ done)

module _ (graph : Graph) (mark mark' : ℕ → Mark) (next next' : ℕ → ℕ) where
  -- Only the mark of `t` may have changed.
  abbrev pub OnlyMark : ℕ → Type 0
  OnlyMark t = (u : ℕ) → (u ≡ t → ⊥) → mark' u ≡ mark u

  -- A new transaction is opened.
  pub opened : (path order : List ℕ) (t : ℕ) → Searches graph mark next path order → t < length graph → mark t ≡ New → mark' t ≡ Open → OnlyMark t → ((u : ℕ) → next' u ≡ next u) → LeadsOn graph next path t
      → Searches graph mark' next' (t ∷ path) order
  opened path order t was below new now others same leads = record {
    in_order = λ u is_in. let o = was.in_order u is_in in (o.0, others u (λ is. done_new (mark t) (ap mark (sym is) ∙ o.1) new) ∙ o.1);
    done = λ u is. elim (cases_eq u t) [
      | inl here ↦ absurd (open_done (mark' t) now (ap mark' (sym here) ∙ is))
      | inr other ↦ was.done u (sym (others u other) ∙ is)
    ];
    apart = was.apart;
    early = was.early;
    in_path = λ u is_in. elim is_in [
      | inl here ↦ (subst (λ v. v < length graph) here below, ap mark' (sym here) ∙ now)
      | inr rest ↦ let o = was.in_path u rest in (o.0, others u (λ is. open_new (mark t) (ap mark (sym is) ∙ o.1) new) ∙ o.1)
    ];
    going = λ u is. elim (cases_eq u t) [
      | inl here ↦ inl (sym here)
      | inr other ↦ inr (was.going u (sym (others u other) ∙ is))
    ];
    path_apart = (λ is_in. open_new (mark t) (was.in_path t is_in).1 new, was.path_apart);
    followed = λ u j l is_in there before. elim is_in [
      | inl here ↦ absurd (none_before u j here before)
      | inr rest ↦
          let d = was.followed u j l rest there (subst (λ n. j < n) (same u) before) in
          others l.from (λ is. done_new (mark t) (ap mark (sym is) ∙ d) new) ∙ d
    ];
    chained = same_all graph next next' (t ∷ path) (λ u is_in. same u) (more_chain graph next t path leads was.chained);
    fresh = λ u is. elim (cases_eq u t) [
      | inl here ↦ absurd (open_new (mark' t) now (ap mark' (sym here) ∙ is))
      | inr other ↦ same u ∙ was.fresh u (sym (others u other) ∙ is)
    ];
    within = λ u. subst (λ n. n ≤ length (edges_of graph u)) (sym (same u)) (was.within u);
  }
    where
      none_before : (u j : ℕ) → t ≡ u → j < next' u → ⊥
      none_before u j here before =
          let a = same u in
          let b = ap next (sym here) in
          let d = was.fresh t new in
          omega arith

  -- An edge from a transaction that is done is passed.
  pub passed : (path order : List ℕ) (t : ℕ) (l : Link) → Searches graph mark next (t ∷ path) order → slice_get (edges_of graph t) (next t) ≡ Some l → mark l.from ≡ Done → ((u : ℕ) → mark' u ≡ mark u) → next' t ≡ next t + 1
      → ((u : ℕ) → (u ≡ t → ⊥) → next' u ≡ next u) → Searches graph mark' next' (t ∷ path) order
  passed path order t l was at_l is_done same step others = record {
    in_order = λ u is_in. let o = was.in_order u is_in in (o.0, same u ∙ o.1);
    done = λ u is. was.done u (sym (same u) ∙ is);
    apart = was.apart;
    early = was.early;
    in_path = λ u is_in. let o = was.in_path u is_in in (o.0, same u ∙ o.1);
    going = λ u is. was.going u (sym (same u) ∙ is);
    path_apart = was.path_apart;
    followed = λ u j m is_in there before. same m.from ∙ elim (cases_eq u t) [
      | inl here ↦ at_t u j m is_in here there before
      | inr other ↦ was.followed u j m is_in there (subst (λ n. j < n) (others u other) before)
    ];
    chained = same_chain graph next next' t path (λ u is_in. others u (λ is. was.path_apart.0 (subst (λ v. IsIn v path) is is_in))) was.chained;
    fresh = λ u is. elim (cases_eq u t) [
      | inl here ↦ absurd (open_new (mark t) (was.in_path t (inl refl)).1 (ap mark (sym here) ∙ sym (same u) ∙ is))
      | inr other ↦ others u other ∙ was.fresh u (sym (same u) ∙ is)
    ];
    within = λ u. elim (cases_eq u t) [
      | inl here ↦ within_t u here
      | inr other ↦ subst (λ n. n ≤ length (edges_of graph u)) (sym (others u other)) (was.within u)
    ];
  }
    where
      within_t : (u : ℕ) → u ≡ t → next' u ≤ length (edges_of graph u)
      within_t u here =
          let a : next' u ≡ next t + 1 = ap next' here ∙ step in
          let b : next t < length (edges_of graph t) = slice_get_within (edges_of graph t) (next t) l at_l in
          let d : length (edges_of graph u) ≡ length (edges_of graph t) = ap (λ v. length (edges_of graph v)) here in
          omega arith

      at_t : (u j : ℕ) (m : Link) → IsIn u (t ∷ path) → u ≡ t → slice_get (edges_of graph u) j ≡ Some m → j < next' u → mark m.from ≡ Done
      at_t u j m is_in here there before =
          let a : next' u ≡ next t + 1 = ap next' here ∙ step in
          let b : next u ≡ next t = ap next here in
          elim (cases_lt j (next u)) [
            | inl less ↦ was.followed u j m is_in there less
            | inr not_less ↦
                let is_last : j ≡ next t = omega arith in
                let same_edge : l ≡ m = cc (sym at_l ∙ ap (slice_get (edges_of graph t)) (sym is_last) ∙ ap (λ v. slice_get (edges_of graph v) j) (sym here) ∙ there) in
                ap (λ (x : Link). mark x.from) (sym same_edge) ∙ is_done
          ]

  -- A transaction whose edges were all followed is done.
  pub closed : (path order : List ℕ) (t : ℕ) → Searches graph mark next (t ∷ path) order → next t ≡ length (edges_of graph t) → mark' t ≡ Done → OnlyMark t → ((u : ℕ) → next' u ≡ next u)
      → Searches graph mark' next' path (order ++ t ∷ [])
  closed path order t was all now others same = record {
    in_order = λ u is_in. elim (in_parts u order (t ∷ []) is_in) [
      | inl before ↦ let o = was.in_order u before in (o.0, done_stays u o.1)
      | inr last ↦ elim last [
        | inl here ↦ (subst (λ v. v < length graph) here (was.in_path t (inl refl)).0, ap mark' (sym here) ∙ now)
        | inr never ↦ absurd never
      ]
    ];
    done = λ u is. elim (cases_eq u t) [
      | inl here ↦ in_right u order (t ∷ []) (inl (sym here))
      | inr other ↦ in_left u order (t ∷ []) (was.done u (sym (others u other) ∙ is))
    ];
    apart = apart_push t order was.apart not_in;
    early = λ u j l is_in there. elim (in_parts u order (t ∷ []) is_in) [
      | inl before ↦
          let e = was.early u j l before there in
          (in_left l.from order (t ∷ []) e.0, kept u l.from before e.0 e.1)
      | inr last ↦ elim last [
        | inl here ↦
            let from_in : IsIn l.from order = was.done l.from (was.followed u j l (inl here) there (below u j l here there)) in
            (in_left l.from order (t ∷ []) from_in, last_place u l.from here from_in)
        | inr never ↦ absurd never
      ]
    ];
    in_path = λ u is_in. let o = was.in_path u (inr is_in) in (o.0, others u (not_t u is_in) ∙ o.1);
    going = λ u is. elim (cases_eq u t) [
      | inl here ↦ absurd (open_done (mark' t) (ap mark' (sym here) ∙ is) now)
      | inr other ↦ in_rest t u path (λ is_t. other (sym is_t)) (was.going u (sym (others u other) ∙ is))
    ];
    path_apart = was.path_apart.1;
    followed = λ u j l is_in there before. done_stays l.from (was.followed u j l (inr is_in) there (subst (λ n. j < n) (same u) before));
    chained = same_all graph next next' path (λ u is_in. same u) (chain_rest graph next t path was.chained);
    fresh = λ u is. elim (cases_eq u t) [
      | inl here ↦ absurd (done_new (mark' t) now (ap mark' (sym here) ∙ is))
      | inr other ↦ same u ∙ was.fresh u (sym (others u other) ∙ is)
    ];
    within = λ u. subst (λ n. n ≤ length (edges_of graph u)) (sym (same u)) (was.within u);
  }
    where
      not_in : IsIn t order → ⊥
      not_in is_in = open_done (mark t) (was.in_path t (inl refl)).1 (was.in_order t is_in).1

      not_t : (u : ℕ) → IsIn u path → u ≡ t → ⊥
      not_t u is_in is = was.path_apart.0 (subst (λ v. IsIn v path) is is_in)

      done_stays : (u : ℕ) → mark u ≡ Done → mark' u ≡ Done
      done_stays u is = elim (cases_eq u t) [
        | inl here ↦ ap mark' here ∙ now
        | inr other ↦ others u other ∙ is
      ]

      below : (u j : ℕ) (l : Link) → t ≡ u → slice_get (edges_of graph u) j ≡ Some l → j < next u
      below u j l here there =
          let a : j < length (edges_of graph u) = slice_get_within (edges_of graph u) j l there in
          let b : next u ≡ next t = ap next (sym here) in
          let d : length (edges_of graph u) ≡ length (edges_of graph t) = ap (λ v. length (edges_of graph v)) (sym here) in
          omega arith

      kept : (u v : ℕ) → IsIn u order → IsIn v order → place v order < place u order → place v (order ++ t ∷ []) < place u (order ++ t ∷ [])
      kept u v in_u in_v before =
          let a = place-append u order (t ∷ []) in_u in
          let b = place-append v order (t ∷ []) in_v in
          omega arith

      last_place : (u v : ℕ) → t ≡ u → IsIn v order → place v (order ++ t ∷ []) < place u (order ++ t ∷ [])
      last_place u v here in_v = elim (cases_lt (place u (order ++ t ∷ [])) (length order)) [
        | inl less ↦ absurd (not_in (subst (λ w. IsIn w order) (sym here) (in_left-place u order (t ∷ []) less)))
        | inr not_less ↦ let a = place-left v order (t ∷ []) in_v in omega arith
      ]
