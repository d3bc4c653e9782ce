-- A caller is in an open transaction exactly if its stance is not closed.
use Rattle.std.proofs.Common.{◌≡◌, ℕ, ◌==◌, cond, ◌≢◌, true, false, List, [], ◌∷◌, ◌++◌, refl, ap, sym, subst, ◌∙◌, Some, None, Option, is_some}
use Rattle.std.specs.Option.{option_and_then}
use Rattle.std.proofs.lemmas.Bool.{false≢true, cases_Bool, cases_eq, eq-eqb}
use mathlib.Core.Logic.{inl, inr}
use Rattle.txn_words.specs.declared.entry.Entry.{Entry}
use Rattle.txn_words.specs.declared.entry.Entry.TheVariants.{Began}
use Rattle.txn_trace.specs.History.{txn_after}
use Rattle.txn_words.specs.Kinds.{caller_of, is_began}
use Rattle.txn_words.specs.Shape.{Stance, row, closed_stance, stance_after, own, is_shaped, IsShaped}
use Rattle.txn_trace.specs.Legal.{is_running}
use Rattle.txn_trace.proofs.Pushes.{txn_in, txn_at, txn_in-push}
use Rattle.txn_trace.proofs.Callers.{Callers, ended, shaped_stance, closed_begins, began_or_not}
use Rattle.txn_trace.proofs.Shaped.{callers_of, stance_of_mine, stance_of_other}
use Rattle.txn_trace.proofs.Inductions.{by_entries}

-- In a history of the right shape, each caller has a stance.
pub has_stance : (g : List Entry) → IsShaped g → (c : ℕ) → is_some (stance_after (own c g)) ≡ true
has_stance g shape c = by_entries (λ h. is_some (stance_after (own c h)) ≡ true) step refl g shape
  where
    step : (g : List Entry) (e : Entry) → IsShaped g → Callers g → is_shaped g e ≡ true → is_some (stance_after (own c g)) ≡ true → is_some (stance_after (own c (g ++ e ∷ []))) ≡ true
    step g e shape callers shaped is = elim (cases_eq c (caller_of e)) [
      | inl mine ↦ ap is_some (stance_of_mine g e callers shaped c mine) ∙ shaped_stance g e shaped
      | inr other ↦ ap is_some (stance_of_other g e callers shaped c other) ∙ is
    ]

began_is_in : (g : List Entry) (e : Entry) → is_began e ≡ true → txn_at g e ≢ None
began_is_in g (Began c t) b is = false≢true (ap is_some (sym is) ∙ ap is_some (refl_at c t))
  where
    refl_at : (c t : ℕ) → txn_after (txn_in g) (Began c t) c ≡ Some t
    refl_at c t = ap (λ b. cond b (Some t) (txn_in g c)) (eq-eqb c c refl)
began_is_in g _ b is = absurd (false≢true b)

-- A caller that has begun no transaction is closed.
pub closed_before : (g : List Entry) → IsShaped g → (c : ℕ) → txn_in g c ≡ None → stance_after (own c g) ≡ Some closed_stance
closed_before g shape c = by_entries (λ h. txn_in h c ≡ None → stance_after (own c h) ≡ Some closed_stance) step (λ is. refl) g shape
  where
    none_before : (g : List Entry) (e : Entry) (d : ℕ) → txn_after (txn_in g) e d ≡ None → txn_in g d ≡ None
    none_before g (Began c t) d is = (elim (c == d) as (λ b. cond b (Some t) (txn_in g d) ≡ None → txn_in g d ≡ None) [ true ↦ λ h. absurd (cc (h)) | false ↦ λ h. h ]) is
    none_before g _ d is = is

    step : (g : List Entry) (e : Entry) → IsShaped g → Callers g → is_shaped g e ≡ true → (txn_in g c ≡ None → stance_after (own c g) ≡ Some closed_stance) → txn_in (g ++ e ∷ []) c ≡ None → stance_after (own c (g ++ e ∷ [])) ≡ Some closed_stance
    step g e shape callers shaped was is =
        let now : txn_after (txn_in g) e c ≡ None = ap (λ f. f c) (sym (txn_in-push g e)) ∙ is in
        let closed = was (none_before g e c now) in
        elim (cases_eq c (caller_of e)) [
          | inl mine ↦
              let opens : is_some (row closed_stance closed_stance.phase e) ≡ true = subst (λ o. is_some (option_and_then (λ (s : Stance). row s s.phase e) o) ≡ true) (ap (λ d. stance_after (own d g)) (sym mine) ∙ closed) (shaped_stance g e shaped) in
              absurd (began_is_in g e (closed_begins e opens) (ap (λ d. txn_after (txn_in g) e d) (sym mine) ∙ now))
          | inr other ↦ stance_of_other g e callers shaped c other ∙ closed
        ]

-- The open transaction of a caller.
pub record Running (g : List Entry) (c : ℕ) : Type 0 where
  pub txn : ℕ
  pub in_it : txn_in g c ≡ Some txn
  pub going : ended txn g ≡ false

-- A caller that is not closed has an open transaction.
pub running_txn : (g : List Entry) → IsShaped g → (c : ℕ) → is_running (stance_after (own c g)) ≡ true → Running g c
running_txn g shape c runs = from (txn_in g c) refl
  where
    callers : Callers g
    callers = callers_of g shape

    from : (o : Option ℕ) → txn_in g c ≡ o → Running g c
    from None is = absurd (false≢true (sym (ap is_running (closed_before g shape c is)) ∙ runs))
    from (Some t) is = elim (cases_Bool (ended t g)) [
      | inl done ↦ absurd (false≢true (sym (ap is_running (callers.closed c t is done)) ∙ runs))
      | inr going ↦ record { txn = t; in_it = is; going = going }
    ]

-- An entry of the right shape belongs to a transaction.
pub has_txn : (g : List Entry) (e : Entry) → IsShaped g → is_shaped g e ≡ true → (t : ℕ) × (txn_at g e ≡ Some t)
has_txn g e shape shaped = from (txn_at g e) refl
  where
    not_began_none : (g : List Entry) (e : Entry) → is_began e ≡ false → txn_at g e ≡ None → txn_in g (caller_of e) ≡ None
    not_began_none g (Began c t) b is = absurd (false≢true (sym b))
    not_began_none g _ b is = is

    from : (o : Option ℕ) → txn_at g e ≡ o → (t : ℕ) × (txn_at g e ≡ Some t)
    from (Some t) is = (t, is)
    from None is = elim (began_or_not e) [
      | inl b ↦ absurd (began_is_in g e b is)
      | inr b ↦
          let closed = closed_before g shape (caller_of e) (not_began_none g e b is) in
          let opens : is_some (row closed_stance closed_stance.phase e) ≡ true = subst (λ o. is_some (option_and_then (λ (s : Stance). row s s.phase e) o) ≡ true) closed (shaped_stance g e shaped) in
          absurd (false≢true (sym b ∙ closed_begins e opens))
    ]
