-- Shows that a transaction continues after it sets a savepoint or returns to one, because no other
-- caller interrupts it, so each change is taken back by one seek and one act.
use Rattle.std.proofs.Common.{◌≡◌, ℕ, ◌<◌, ◌==◌, zero, suc, Bool, true, false, cond, List, [], ◌∷◌, ◌++◌, length, Option, Some, None, is_some, slice_index, refl, sym, ap, subst, ◌∙◌, arith}
use Rattle.std.specs.Prelude.{nat_le, nat_lt, ◌&&◌}
use Rattle.std.specs.Option.{option_and_then}
use Rattle.std.proofs.lemmas.Bool.{false≢true, and_parts, ltb-true, leb-false, eqb-true}
use Rattle.std.proofs.lemmas.List.{append-nil}
use mathlib.Core.Logic.{inl, inr}
use Rattle.txn_words.specs.declared.entry.Entry.{Entry}
use Rattle.txn_words.specs.declared.entry.Entry.TheVariants as entry
use Rattle.txn_words.specs.declared.refusal.Refusal.{Refusal}
use Rattle.txn_words.specs.declared.refusal.Refusal.TheVariants as refusals
use Rattle.txn_words.specs.declared.step.Step.{Step}
use Rattle.txn_words.specs.declared.step.Step.TheVariants.{Seek, Act, Save}
use Rattle.txn_words.specs.declared.answer.Answer.{Answer}
use Rattle.txn_words.specs.declared.answer.Answer.TheVariants as answers
use Rattle.txn_words.specs.declared.stance.Phase.{Phase}
use Rattle.txn_words.specs.declared.stance.Phase.TheVariants.{Opened, LeavingTo}
use Rattle.txn_words.specs.declared.holder.Holder.{Holder}
use Rattle.txn_words.specs.Map.{Map}
use Rattle.txn_words.specs.Sizes.{Sizes}
use Rattle.txn_trace.specs.Now.{now}
use Rattle.txn_words.specs.Shape.{Stance, stance_after, own, row, is_numbered, IsShaped}
use Rattle.txn_trace.specs.Legal.{IsLegal}
use Rattle.txn_trace.proofs.EntrySteps.{stance-own}
use Rattle.txn_trace.proofs.Entries as laws
use Rattle.txn_trace.specs.Log.{rolled_back}
use Rattle.boost_core.specs.State.{State, holder_by, stance_in}
use Rattle.boost_core.specs.Refusals.{is_closed, is_leaving, is_waiting, has_job}
use Rattle.boost_core.specs.Machine.{Move, Moves}
use Rattle.boost_core.specs.Plain.{Returns, undoing, undone}
use Rattle.owned_map.specs.Within.{IsBasedOn, IsAt, CanAbort, GoesOn}
use Rattle.owned_map.proofs.Histories.{stands_after}
use Rattle.owned_map.proofs.Steps.{to_state, unmoved, phase_in, leaves_on, ready, unready, based}
use Rattle.owned_map.proofs.Only as only
use Rattle.boost_core.proofs.SideRefusals.{first_none}

module _ {rule : Holder} (limits : Sizes) (c : ℕ) (base : Map) (h : List Entry) where
  saved_now : IsBasedOn rule limits c base Opened h → IsBasedOn rule limits c base Opened (h ++ entry.Saved c ∷ []) × (now (h ++ entry.Saved c ∷ []) ≡ now h)
  saved_now stands =
      let next = laws.saved limits.stripes h stands.legal c stands.stance stands.stance_is stands.phase_is in (
        subst (λ q. IsBasedOn rule limits c base q (h ++ entry.Saved c ∷ [])) stands.phase_is
            (stands_after limits c base h (entry.Saved c) refl stands.within _ _ _ _ _ next stands.back),
        next.now_is,
      )

  pub left_to_now : (n : ℕ) (stands : IsBasedOn rule limits c base Opened h) → n < length stands.stance.kept → IsBasedOn rule limits c base (LeavingTo n) (h ++ entry.Leave c (Some n) ∷ [])
  left_to_now n stands within =
      stands_after limits c base h (entry.Leave c (Some n)) refl stands.within _ _ _ _ _ (laws.left_to limits.stripes h stands.legal c n stands.stance stands.stance_is stands.phase_is within) stands.back

  pub undone_to_now : (n : ℕ) (stands : IsBasedOn rule limits c base (LeavingTo n) h) → slice_index stands.stance.kept n < stands.stance.standing → IsBasedOn rule limits c base (LeavingTo n) (h ++ entry.Undone c ∷ [])
  undone_to_now n stands more =
      let newest = laws.newest h c stands.stance stands.stance_is (some_of (slice_index stands.stance.kept n) stands.stance.standing more) in
      let next = laws.undone_to limits.stripes h stands.legal c n stands.stance stands.stance_is stands.phase_is more newest.0 newest.1 newest.2 in
      subst (λ q. IsBasedOn rule limits c base q (h ++ entry.Undone c ∷ [])) stands.phase_is
      (stands_after limits c base h (entry.Undone c) refl stands.within _ _ _ _ _ next (ap (λ l. rolled_back (now h) l) (sym newest.2) ∙ stands.back))
    where
      some_of : (m k : ℕ) → m < k → 0 < k
      some_of m k less = omega arith

  pub returned_now : (n : ℕ) (stands : IsBasedOn rule limits c base (LeavingTo n) h) → slice_index stands.stance.kept n ≡ stands.stance.standing → IsBasedOn rule limits c base Opened (h ++ entry.Returned c n ∷ [])
  returned_now n stands reached =
      stands_after limits c base h (entry.Returned c n) refl stands.within _ _ _ _ _ (laws.returned limits.stripes h stands.legal c n stands.stance stands.stance_is stands.phase_is reached) stands.back

-- If a savepoint is set, the transaction stays open and the map is unchanged.
saves : (old new : State) (c : ℕ) (base : Map) (n : ℕ) → IsAt c base Opened old → Move old (Save c) (answers.Saved n) new → IsAt c base Opened new × (now new.history ≡ now old.history)
saves old new c base n stands move =
    let saved = saved_now old.limits c base old.history stands in
    (to_state c base Opened _ new move.state saved.0, ap (λ (s : State). now s.history) move.state ∙ saved.1)

pub saved : (old new : State) (c n : ℕ) → Move old (Save c) (answers.Saved n) new → GoesOn c old new
saved old new c n move = record { back = λ base can. went base can; beside = only.moved c old new (Save c) (answers.Saved n) (record { whose = refl; quiet = refl }) move }
  where
    went : (base : Map) → CanAbort c base old → CanAbort c base new
    went base (inl stands) = inl (saves old new c base n stands move).0
    went base (inr stands) = absurd (leaves_on old c base _ stands move.allowed.0)

pub saved_same : (old new : State) (c n : ℕ) → IsLegal (holder_by old.words) old.limits.stripes old.history → Move old (Save c) (answers.Saved n) new → now new.history ≡ now old.history
saved_same old new c n legal move = (saves old new c (based c old) n (ready old c _ legal move.allowed.0) move).1

pub no_other_save : (old new : State) (c : ℕ) (answer : Answer) → ((n : ℕ) → answer ≡ answers.Saved n → ⊥) → ((refusal : Refusal) → answer ≡ answers.Refused refusal → ⊥) → Move old (Save c) answer new → ⊥
no_other_save old new c (answers.Refused refusal) not_saved not_refused move = not_refused refusal refl
no_other_save old new c (answers.Saved n) not_saved not_refused move = not_saved n refl
no_other_save old new c _ not_saved not_refused move = absurd move.allowed.1

-- If one change is taken back during a return to a level, the caller is still returning to this
-- level.
one_back : (old between new : State) (c : ℕ) (base : Map) (n : ℕ) → IsAt c base (LeavingTo n) old → Move old (Seek c) answers.Placed between → Move between (Act c) answers.Undone new → IsAt c base (LeavingTo n) new
one_back old between new c base n stands seek act =
    let sought = to_state c base (LeavingTo n) _ between seek.state (unmoved c base (LeavingTo n) old stands) in
    let job : has_job sought.stance ≡ true = subst (λ (stance : Stance). has_job stance ≡ true) (phase_in c base (LeavingTo n) between sought) act.allowed.1 in
    let more : nat_lt (slice_index sought.stance.kept n) sought.stance.standing ≡ true = subst (λ q. has_job (record (sought.stance) { phase = q }) ≡ true) sought.phase_is job in
    to_state c base (LeavingTo n) _ new act.state (undone_to_now between.limits c base between.history n sought (ltb-true (slice_index sought.stance.kept n) sought.stance.standing more))

backwards : (old new : State) (c : ℕ) (base : Map) (n changes : ℕ) (steps : List Step) (others : List Answer) → IsAt c base (LeavingTo n) old → Moves old (undoing changes c steps) (undone changes others) new
    → (between : State) × IsAt c base (LeavingTo n) between × Moves between steps others new
backwards old new c base n zero steps others stands moves = (old, stands, moves)
backwards old new c base n (suc changes) steps others stands moves =
    let (between, there, (s1, seek, (s2, act, rest))) = backwards old new c base n changes (Seek c ∷ Act c ∷ steps) (answers.Placed ∷ answers.Undone ∷ others) stands moves in
    (s2, one_back between s1 s2 c base n there seek.move act.move, rest)

-- If a Returned entry has the right shape, it names the level that the caller goes back to, and the
-- caller has taken back all changes since this level was set.
pub reached_at : (c n m : ℕ) (h : List Entry) (stance : Stance) → stance_after (own c h) ≡ Some stance → stance.phase ≡ LeavingTo n → IsShaped (h ++ entry.Returned c m ∷ []) → (n ≡ m) × (slice_index stance.kept n ≡ stance.standing)
reached_at c n m h stance stance_is leaving shaped =
    let e : Entry = entry.Returned c m in
    let there : is_some (stance_after (own c (h ++ e ∷ []))) ≡ true =
    (and_parts (is_some (stance_after (own c (h ++ e ∷ [])))) (is_numbered h e) (shaped h e ([], append-nil (h ++ e ∷ [])))).0 in
    let as_row : is_some (row stance (LeavingTo n) e) ≡ true =
    sym (ap is_some (stance-own h e ∙ ap (λ o. option_and_then (λ (s : Stance). row s s.phase e) o) stance_is ∙ ap (λ q. row stance q e) leaving)) ∙ there in
    let parts = and_parts (n == m) (slice_index stance.kept n == stance.standing) (tested ((n == m) && (slice_index stance.kept n == stance.standing)) _ as_row) in
    (eqb-true n m parts.0, eqb-true (slice_index stance.kept n) stance.standing parts.1)
  where
    tested : (b : Bool) (s : Stance) → is_some (cond b (Some s) None) ≡ true → b ≡ true
    tested true s there = refl
    tested false s there = absurd (false≢true there)

-- If `unready` returns None, the step passes the tests of readiness, and the later tests (`rest`)
-- too.
pub past : (s : State) (c : ℕ) (rest : Option Refusal) → unready s c rest ≡ None → rest ≡ None
past s c rest free =
    let q : Phase = (stance_in s.history c).phase in
    let waits : Option Refusal = cond (is_waiting q) (Some refusals.OperationUnfinished) rest in
    let leaves : Option Refusal = cond (is_leaving q) (Some refusals.Leaving) waits in
    let closes : Option Refusal = cond (is_closed q) (Some refusals.NotOpen) leaves in
    let within = first_none (nat_le s.limits.callers c) refusals.NoSuchCaller closes free in
    let closed = first_none (is_closed q) refusals.NotOpen leaves within.1 in
    let leaving = first_none (is_leaving q) refusals.Leaving waits closed.1 in
    (first_none (is_waiting q) refusals.OperationUnfinished rest leaving.1).1

-- After a return to a level, the transaction is open and can still be taken back to `base`.
returns : (old new : State) (c : ℕ) (base : Map) (n m : ℕ) → IsShaped new.history → IsAt c base Opened old → Returns old c n (answers.Returned m) new → IsAt c base Opened new
returns old new c base n m shaped stands (same, left, leave, (changes, moves)) =
    let level = first_none (nat_le (length (stance_in old.history c).kept) n) refusals.NoSuchLevel None
    (past old c (cond (nat_le (length (stance_in old.history c).kept) n) (Some refusals.NoSuchLevel) None) leave.move.allowed.0) in
    let within : n < length stands.stance.kept = leb-false (length stands.stance.kept) n (subst (λ (stance : Stance). nat_le (length stance.kept) n ≡ false) (phase_in c base Opened old stands) level.0) in
    let gone = to_state c base (LeavingTo n) _ left leave.move.state (left_to_now old.limits c base old.history n stands within) in
    let (between, there, (s1, act, last)) = backwards left new c base n changes (Act c ∷ []) (answers.Returned m ∷ []) gone moves in
    let whole : IsShaped (between.history ++ entry.Returned c m ∷ []) = subst IsShaped (ap (λ (s : State). s.history) (last ∙ act.move.state)) shaped in
    let at = reached_at c n m between.history there.stance there.stance_is there.phase_is whole in
    let back = returned_now between.limits c base between.history n there at.1 in
    to_state c base Opened _ new (last ∙ act.move.state) (subst (λ k. IsBasedOn (holder_by between.words) between.limits c base Opened (between.history ++ entry.Returned c k ∷ [])) at.0 back)

pub returned : (old new : State) (c n m : ℕ) → IsShaped new.history → Returns old c n (answers.Returned m) new → GoesOn c old new
returned old new c n m shaped (same, left, leave, ends) = record {
  back = λ base can. went base can;
  beside = only.returned c n old new (answers.Returned m) (same, left, leave, ends);
}
  where
    went : (base : Map) → CanAbort c base old → CanAbort c base new
    went base (inl stands) = inl (returns old new c base n m shaped stands (same, left, leave, ends))
    went base (inr stands) = absurd (leaves_on old c base _ stands leave.move.allowed.0)

pub no_other_return : (old new : State) (c n : ℕ) (answer : Answer) → ((m : ℕ) → answer ≡ answers.Returned m → ⊥) → ((refusal : Refusal) → answer ≡ answers.Refused refusal → ⊥) → Returns old c n answer new → ⊥
no_other_return old new c n (answers.Refused refusal) not_returned not_refused move = not_refused refusal refl
no_other_return old new c n (answers.Returned m) not_returned not_refused moves = not_returned m refl
no_other_return old new c n answers.Leaving not_returned not_refused none = none
no_other_return old new c n _ not_returned not_refused event = absurd event.move.allowed.1
