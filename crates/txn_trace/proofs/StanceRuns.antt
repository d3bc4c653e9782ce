-- In a history of the right shape each caller's stance agrees with its transaction's run, on every
-- map on which the run is defined.
use Rattle.std.proofs.Common.{◌≡◌, ℕ, true, false, cond, List, [], ◌∷◌, ◌++◌, refl, ap, sym, subst, ◌∙◌, Some, None, Option, is_some, arith, append_assoc}
use Rattle.std.specs.Option.{option_eq, option_and_then}
use Rattle.std.specs.Prelude.{nat_eq}
use Rattle.std.proofs.lemmas.Bool.{false≢true, cases_Bool}
use Rattle.std.proofs.lemmas.List.{append-nil}
use mathlib.Core.Logic.{inl, inr}
use Rattle.txn_words.specs.declared.entry.Entry.{Entry}
use Rattle.txn_words.specs.declared.entry.Entry.TheVariants.{Began, Did}
use Rattle.txn_words.specs.Map.{Map, reply_of}
use Rattle.txn_trace.specs.History.{lines_of, of}
use Rattle.txn_words.specs.Kinds.{caller_of, is_began}
use Rattle.txn_trace.specs.Alone.{AloneRun, start, with_op, act_did, act, alone}
use Rattle.txn_words.specs.declared.stance.Phase.{Phase}
use Rattle.txn_words.specs.declared.stance.Phase.TheVariants.{Closed, Opened}
use Rattle.txn_words.specs.Shape.{Stance, row, stance_after, closed_stance, own, is_shaped, IsShaped}
use Rattle.txn_trace.proofs.Pushes.{txn_in, txn_at, of-push_in, of-push_out, alone-push}
use Rattle.txn_trace.proofs.Callers.{Callers, callers_none, is_end, ended, in_or_out, shaped_stance, shaped_number, began_or_not, began_number, at_is, not_began_is}
use Rattle.txn_trace.proofs.Shaped.{callers_push, ended_in, not_ended_before, stance_of_mine, stance_of_other, step, same}
use Rattle.txn_trace.proofs.Now.{same_option}
use Rattle.txn_trace.proofs.BadEntries.{empty_or_owned}
use Rattle.txn_trace.proofs.Fits.{Fits, FitsAfter, IsReply, fits_act, fits_start}

-- A caller's stance, which agrees with the run of transaction t on each map.
pub record StanceRuns (g : List Entry) (c t : ℕ) : Type 0 where
  pub stance : Stance
  pub is : stance_after (own c g) ≡ Some stance
  pub fits : (m : Map) (r : AloneRun) → alone m (of t g) ≡ Some r → Fits stance r

abbrev pub HaveStances : List Entry → Type 0
HaveStances g = (c t : ℕ) → txn_in g c ≡ Some t → ended t g ≡ false → StanceRuns g c t

-- If a run allows an entry, the entry's reply is right.
pub reply_of_act : (r r' : AloneRun) (e : Entry) → act r e ≡ Some r' → IsReply r e
reply_of_act r r' (Did c x) is = λ op waits.
    let goes : act_did r (Some op) x ≡ Some r' = ap (λ p. act_did r p x) (sym waits) ∙ is in
    same_option x (reply_of r.last op)
    ((elim (option_eq nat_eq x (reply_of r.last op)) as (λ b. cond b (Some (record (with_op r op) { pending = None })) None ≡ Some r' → b ≡ true) [ true ↦ λ h. refl | false ↦ λ h. absurd (cc (h)) ]) goes)
reply_of_act r r' _ is = tt

began_opens : (e : Entry) (o : Option Stance) → is_began e ≡ true → is_some (option_and_then (λ s. row s s.phase e) o) ≡ true → option_and_then (λ s. row s s.phase e) o ≡ Some (record closed_stance { phase = Opened })
began_opens e None b h = absurd (false≢true h)
began_opens e (Some s) b h = at e s.phase b h
  where
    at : (f : Entry) (q : Phase) → is_began f ≡ true → is_some (row s q f) ≡ true → row s q f ≡ Some (record closed_stance { phase = Opened })
    at (Began x t) Closed b h = refl
    at (Began x t) _ b h = absurd (false≢true h)
    at _ q b h = absurd (false≢true b)

pub alone_began : (m : Map) (e : Entry) → is_began e ≡ true → alone m (e ∷ []) ≡ Some (start m)
alone_began m (Began c t) b = refl
alone_began m _ b = absurd (false≢true b)

pub the_some : {A : Type 0} (o : Option A) → is_some o ≡ true → (a : A) × (o ≡ Some a)
the_some None h = absurd (false≢true h)
the_some (Some a) h = (a, refl)

module _ (g : List Entry) (e : Entry) (callers : Callers g) (shaped : is_shaped g e ≡ true) (its_stance : HaveStances g) where
  -- A transaction that begins has no earlier entries.
  pub none_before : (t : ℕ) → is_began e ≡ true → txn_at g e ≡ Some t → of t g ≡ []
  none_before t b at =
      let n = began_number g e t b (shaped_number g e shaped) (at_is g e t at) in
      elim (cases_Bool (ended t g)) [
        | inl done ↦ let k = callers.ended_numbers t done in absurd (omega arith)
        | inr going ↦ elim (empty_or_owned t g going (lines_of g) callers.owned) [
          | inl none ↦ none
          | inr w ↦ let k = callers.numbers w.0 t w.1 in absurd (omega arith)
        ]
      ]

  stance_now : (s : Stance) → stance_after (own (caller_of e) g) ≡ Some s → is_some (row s s.phase e) ≡ true
  stance_now s is = subst (λ o. is_some (option_and_then (λ s. row s s.phase e) o) ≡ true) is (shaped_stance g e shaped)

  -- If the stance before the entry agrees with the run before it, the stance after the entry agrees
  -- with the run after it.
  goes_on : (s s' : Stance) (m : Map) (t : ℕ) → is_began e ≡ false → is_end e ≡ false → ((r : AloneRun) → alone m (of t g) ≡ Some r → Fits s r) → is_some (row s s.phase e) ≡ true → row s s.phase e ≡ Some s'
      → (o : Option AloneRun) → alone m (of t g) ≡ o → (r : AloneRun) → option_and_then (λ q. act q e) o ≡ Some r → Fits s' r
  goes_on s s' m t b n fits h is None was r goes = absurd (cc (goes))
  goes_on s s' m t b n fits h is (Some q) was r goes =
      let both : FitsAfter (row s s.phase e) (act q e) = fits_act s q e s.phase refl b n (fits q was) (reply_of_act q r e goes) h in
      subst (λ x. FitsAfter (Some s') x) goes (subst (λ x. FitsAfter x (act q e)) is both)

  pub stances_push : HaveStances (g ++ e ∷ [])
  stances_push c t is going = elim (in_or_out (txn_at g e) t) [
    | inl at ↦
        let mine : c ≡ caller_of e = elim (step g e callers shaped c t is) [ inl w ↦ w.0 | inr w ↦ sym (same g e callers shaped c t at w.1) ] in
        let stance_is = stance_of_mine g e callers shaped c mine in
        elim (began_or_not e) [
          | inl b ↦ record {
            stance = record closed_stance { phase = Opened };
            is = stance_is ∙ began_opens e (stance_after (own (caller_of e) g)) b (shaped_stance g e shaped);
            fits = λ m r run.
                let es : of t (g ++ e ∷ []) ≡ e ∷ [] = of-push_in t g e at ∙ ap (λ xs. xs ++ e ∷ []) (none_before t b at) in
                let same_run : start m ≡ r = cc (sym (alone_began m e b) ∙ ap (alone m) (sym es) ∙ run) in
                subst (Fits (record closed_stance { phase = Opened })) same_run (fits_start m);
          }
          | inr b ↦
              let goes : is_end e ≡ false = sym (ended_in g e callers shaped t at) ∙ going in
              let was = its_stance (caller_of e) t (not_began_is g e t b (at_is g e t at)) (not_ended_before g e callers shaped t going) in
              let h = stance_now was.stance was.is in
              let next = the_some (row was.stance was.stance.phase e) h in
              record {
                stance = next.0;
                is = stance_is ∙ ap (option_and_then (λ s. row s s.phase e)) was.is ∙ next.1;
                fits = λ m r run. goes_on was.stance next.0 m t b goes (was.fits m) h next.1 (alone m (of t g)) refl r
                    (sym (alone-push m (of t g) e) ∙ ap (alone m) (sym (of-push_in t g e at)) ∙ run);
              }
        ]
    | inr out ↦ elim (step g e callers shaped c t is) [
      | inl w ↦ absurd (out w.1)
      | inr w ↦
          let was = its_stance c t w.1 (not_ended_before g e callers shaped t going) in
          record {
            stance = was.stance;
            is = stance_of_other g e callers shaped c w.0 ∙ was.is;
            fits = λ m r run. was.fits m r (ap (alone m) (sym (of-push_out t g e out)) ∙ run);
          }
    ]
  ]

stances_all : (g rest : List Entry) → Callers g → HaveStances g → IsShaped (g ++ rest) → HaveStances (g ++ rest)
stances_all g [] callers its_stance shape = subst HaveStances (sym (append-nil g)) its_stance
stances_all g (e ∷ rest) callers its_stance shape =
    let shaped = shape g e (rest, append_assoc g (e ∷ []) rest) in
    subst HaveStances (append_assoc g (e ∷ []) rest)
    (stances_all (g ++ e ∷ []) rest (callers_push g e callers shaped) (stances_push g e callers shaped its_stance) (subst IsShaped (sym (append_assoc g (e ∷ []) rest)) shape))

pub have_stances : (g : List Entry) → IsShaped g → HaveStances g
have_stances g shape = stances_all [] g callers_none (λ c t is going. absurd (cc (is))) shape
