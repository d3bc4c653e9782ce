-- The rule still holds if a seat's `met` is set to the history that another seat has seen.
use Rattle.std.proofs.Common.{◌≡◌, ◌≢◌, ℕ, ◌⊎◌, List, [], ◌∷◌, ◌++◌, length, set, Some, slice_get, sym, refl, ◌∙◌, ap, subst, inl, inr, ⊎_elim, arith, append-nil, true}
use mathlib.Core.List.{IsPrefix}
use mathlib.Core.Logic.{dite}
use mathlib.Core.Option.{some, none, some-injective}
use native.Mathlib.Decide.{ℕ_discrete}
use lib.ListN.{get_elem?}
use Rattle.atomic_table.specs.Table.{step, Allows, Splits, Joins}
use Rattle.std.proofs.lemmas.Bool.{false≢true}
use Rattle.atomic_table.proofs.Lists.{at_set, at_snoc, at_longer, set_here, set_else, set_again}
use Rattle.txn_words.specs.declared.entry.Entry.{Entry}
use Rattle.txn_words.specs.Map.{get}
use Rattle.txn_words.proofs.Holding.{within}
use Rattle.txn_trace.specs.Now.{now}
use Rattle.striped_map.specs.declared.view.View.{View}
use Rattle.striped_map.specs.Rule.{Holds, HasSeen, IsFree, IsKeptAt, IsKept, measure}
use Rattle.striped_map.specs.Steps.{Sat, SeesIn, witness, blank, heard, met_up}
use Rattle.striped_map.proofs.CallerNumbers.{given_among, given_same}
use Rattle.striped_map.proofs.RuleFrames.{St, at_slots, board, prefix_on, stored_views, viewed}
use Rattle.striped_map.proofs.AdditionLemmas.{grows_none}
use Rattle.striped_map.proofs.RuleSteps.{extends, loads, nothing_at}

-- The view is a witness: no caller uses it, and it has seen a beginning of the history.
abbrev IsWitness : List Entry → View → Type 0
IsWitness log u = (seen : List Entry) × IsPrefix seen log × (witness seen ≡ u)

idles : (log : List Entry) (u : View) → IsWitness log u → u.acts ≡ true → ⊥
idles log u w a = false≢true (ap (λ (x : View). x.acts) w.2 ∙ a)

holds_none : (log : List Entry) (u : View) → IsWitness log u → (k : ℕ) → Holds u k → ⊥
holds_none log u w k h =
    let none : Holds (witness w.0) k = subst (λ (x : View). Holds x k) (sym w.2) h in absurd (omega (arith, none))

retired_none : (log : List Entry) (u : View) → IsWitness log u → (j : ℕ) (r : ℕ × List Entry) → slice_get u.retired j ≡ Some r → ⊥
retired_none log u w j r has = nothing_at j r (ap (λ (x : View). slice_get x.retired j) w.2 ∙ has)

has_seen : (n : ℕ) (log : List Entry) (u : View) → IsWitness log u → HasSeen n log u
has_seen n log u w = subst (HasSeen n log) w.2 (record {
  rest = w.1.0;
  goes = sym w.1.1;
  others = λ a. absurd (false≢true a);
  still = λ q h. absurd (omega (arith, h));
  spared = λ k h. absurd (omega (arith, h));
  met = (log, refl);
})

-- The rule still holds if witnesses are added, or if they are replaced by blank ones.
module _ (n : ℕ) (s : St) (kept : IsKeptAt n s) (vs : List View)
    (stays : (i : ℕ) (u : View) → get_elem? s.views i ≡ some u → u.acts ≡ true → get_elem? vs i ≡ some u)
    (place : (i : ℕ) (u : View) → get_elem? vs i ≡ some u → (get_elem? s.views i ≡ some u) ⊎ IsWitness kept.0 u)
    (away : (c : ℕ) → IsFree vs c → IsFree s.views c) where
  was : (i : ℕ) (u : View) → get_elem? vs i ≡ some u → u.acts ≡ true → get_elem? s.views i ≡ some u
  was i u e a = ⊎_elim (λ (p : get_elem? s.views i ≡ some u). p) (λ w. absurd (idles kept.0 u w a)) (place i u e)

  among : IsKeptAt n (board s.words s.homes vs)
  among = let log = kept.0 in let o = kept.1 in let told = kept.3 in (
    log,
    record {
      apart = λ i j u x a b au ax e. o.apart i j u x (was i u a au) (was j x b ax) au ax e;
      held = λ i u e a. o.held i u (was i u e a) a;
      idle = λ i u e k h. ⊎_elim (λ p. o.idle i u p k h) (λ w. absurd (holds_none log u w k h)) (place i u e);
      inside = λ i u e k h. ⊎_elim (λ p. o.inside i u p k h) (λ w. absurd (holds_none log u w k h)) (place i u e);
      spent = λ i u e j r has. ⊎_elim
          (λ p. λ k x at a. o.spent i u p j r has k x (was k x at a) a)
          (λ w. absurd (retired_none log u w j r has)) (place i u e);
      once = λ i u e. ⊎_elim (λ p. o.once i u p) (λ w j k r r' has has' same. absurd (retired_none log u w j r has)) (place i u e);
    },
    stored_views n s.words s.homes s.views log kept.2 vs (λ i u e a. kept.2.alike i u (was i u e a) a),
    record {
      legal = told.legal;
      owned = told.owned;
      begun = told.begun;
      seen = λ i u e. ⊎_elim (λ p. told.seen i u p) (λ w. has_seen n log u w) (place i u e);
      unborn = λ c none. told.unborn c (away c none);
      ended = λ i u e j r has. ⊎_elim (λ p. told.ended i u p j r has) (λ w. absurd (retired_none log u w j r has)) (place i u e);
    },
    given_among n s.words s.views vs kept.4
        (λ i u e. ⊎_elim (λ p. inl p) (λ w. inr (sym (ap (λ (x : View). x.acts) w.2), sym (ap (λ (x : View). x.retired) w.2), sym (ap (λ (x : View). x.made) w.2))) (place i u e))
        stays,
  )

-- The rule still holds if a seat splits off a witness that has seen what the seat has seen.
pub witnesses : (id : ℕ) (v : View) → Splits IsKept id v v (witness v.seen)
witnesses id v s kept me =
    let w = witness v.seen in let h = kept.3.seen id v me in
    let more : IsKept (board s.words s.homes (s.views ++ w ∷ [])) = among (length s.homes) s kept (s.views ++ w ∷ [])
    (λ i u at a. at_longer s.views (w ∷ []) i u at)
    (λ i u e. ⊎_elim (λ (p : get_elem? s.views i ≡ some u). inl p) (λ (q : w ≡ u). inr (v.seen, (h.rest, sym h.goes), q)) (at_snoc s.views w u i e))
    (λ c none i u at. none i u (at_longer s.views (w ∷ []) i u at)) in
    subst (λ (vs : List View). IsKept (board s.words s.homes (vs ++ w ∷ []))) (sym (set_again s.views id v me)) more

-- If a witness is replaced by a blank one, the rule still holds.
forgotten : (n : ℕ) (s : St) (kept : IsKeptAt n s) (other : ℕ) (seen : List Entry)
    → IsPrefix seen kept.0 → get_elem? s.views other ≡ some (witness seen) → IsKeptAt n (board s.words s.homes (set s.views other blank))
forgotten n s kept other seen front at =
    let log = kept.0 in
    let spent : (u : View) → get_elem? s.views other ≡ some u → IsWitness log u
    = λ u there. (seen, front, some-injective (witness seen) u (sym at ∙ there)) in
    among n s kept (set s.views other blank)
    (λ i u there a. set_else s.views other i blank (λ e. idles log u (spent u (subst (λ (k : ℕ). get_elem? s.views k ≡ some u) e there)) a) ∙ there)
    (λ i u e. ⊎_elim
    (λ (t : (i ≡ other) × (blank ≡ u)). inr ([], (log, refl), t.1))
    (λ (t : (i ≢ other) × (get_elem? s.views i ≡ some u)). inl t.1) (at_set s.views other i blank u e))
    (λ c none i u there. dite (ℕ_discrete i other)
    (λ (e : i ≡ other). let w = spent u (subst (λ (k : ℕ). get_elem? s.views k ≡ some u) e there) in
    (λ a. absurd (idles log u w a), λ j r has. absurd (retired_none log u w j r has)))
    (λ ne. none i u (set_else s.views other i blank ne ∙ there)))

-- The rule still holds if a witness is merged into a seat. The seat's `met` is then the history
-- that the witness has seen.
pub hears : (id other : ℕ) (v : View) (seen : List Entry) → v.acts ≡ true → Joins IsKept id v other (witness seen) (heard v (witness seen)) blank
hears id other v seen acting s kept me ne at =
    let n = length s.homes in let w = heard v (witness seen) in
    let there : get_elem? s.views other ≡ some (witness seen) = sym (set_else s.views id other w ne) ∙ at in
    let front : IsPrefix seen kept.0 = (let h = kept.3.seen other (witness seen) there in (h.rest, sym h.goes)) in
    let h = kept.3.seen id v me in
    let has : HasSeen n kept.0 w = record { rest = h.rest; goes = h.goes; others = h.others; still = h.still; spared = h.spared; met = front } in
    let met : IsKeptAt n (board s.words s.homes (set s.views id w)) = viewed n s kept id v w me acting refl acting refl refl refl has
    (given_same n s.words s.words s.views kept.4 id v w me acting refl acting refl refl (λ a. a) (omega arith) refl refl refl) in
    let heard_of : IsPrefix seen met.0 = (met.3.seen id w (set_here s.views id w (within s.views id v me))).met in
    forgotten n (board s.words s.homes (set s.views id w)) met other seen heard_of at

-- A seat may load and so see the history: the rule allows this. The seat's `met` is a beginning of
-- it.
pub meets_up : (n id : ℕ) (m : Sat) (i : ℕ) → m.0.acts ≡ true → Allows IsKept n id m i (λ y. y) (met_up (step n i 0 0 none) m)
meets_up n id m i acting s o wide me small =
    let v : View = m.0 in let kept = at_slots n s o wide in let log = kept.0 in
    let h = kept.3.seen id v me in
    let grows = grows_none n v.number (Holds v) log kept.3.legal in
    loads n id m i (met_up (step n i 0 0 none) m) s kept me acting 0 [] grows (ap (measure kept.2.keep) (append-nil log)) (
      refl,
      record { view_is = refl; goes = extends n log [] v h acting grows.legal; still = λ q hold. ap (λ (l : List Entry). get (now l) q) (append-nil log) ∙ h.still q hold },
      prefix_on v.met log [] h.met,
    )

-- If `SeesIn` holds for a view, it also holds for each view that differs from it only in `met`.
pub sees_met : (n : ℕ) (v u w : View) (front : List Entry) → u ≡ record v { met = front } → SeesIn n u w → SeesIn n v w
sees_met n v u w front is sees =
    let x : SeesIn n (record v { met = front }) w = subst (λ (y : View). SeesIn n y w) is sees in
    record { view_is = x.view_is; goes = x.goes; still = x.still }
