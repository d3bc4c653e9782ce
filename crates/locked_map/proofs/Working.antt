-- If a core and a drive are in step, they stay in step after each step of an operation or a return.
use Rattle.std.proofs.Common.{if◌then◌else◌, ℕ, ◌&&◌, ◌+◌, ◌-◌, ◌<◌, ◌^◌, ◌||◌, ◌∙◌, ◌≡◌, Bool, None, Option, Some, ap, cond, false, inl}
use Rattle.std.proofs.Common.{inr, is_some, length, lt-ltb, nat_le, not, refl, subst, sym, true}
use Rattle.locked_map.specs.Vocabulary.{Answer, Busy, Call, IsAllowed, Last, Leaving, Move, NothingToSeek, Op, Operation, OutOfStep}
use Rattle.locked_map.specs.Vocabulary.{Refusal, Stance, Seeking, Standing, State, Work, caller_changes, counted, end_last, is_closed}
use Rattle.locked_map.specs.Vocabulary.{lacks_in, stance_in, told_seek, undone_in, undone_more}
use Rattle.locked_map.proofs.Vocabulary.{false≢true, never_refused, or_else, refusal_parts}
use Rattle.txn_words.specs.Stances.{has_job, has_target, is_leaving, is_waiting}
use Rattle.txn_drive.specs.Drives.{told_act}
use Rattle.std.proofs.lemmas.Bool.{and_parts}
use Rattle.txn_trace.specs.Now.{now}
use Rattle.txn_words.specs.Map.{Map}
use Rattle.boost_core.proofs.Calls.{act_free, and_none}
use Rattle.boost_core.proofs.HelpTargets.{set_there}
use Rattle.boost_core.specs.Answers.{IsReply, is_at_end, is_back_at}
use Rattle.locked_map.specs.Suits.{SuitsStance, Suits, is_odd, work_phase}
use Rattle.txn_drive.specs.declared.call.Call.TheVariants as calls
use Rattle.txn_drive.specs.declared.«end».End.TheVariants as ends
use Rattle.txn_words.specs.declared.answer.Answer.TheVariants as answers
use Rattle.txn_words.specs.declared.refusal.Refusal.TheVariants as refusals
use Rattle.txn_words.specs.declared.stance.Phase.TheVariants as stances
use Rattle.txn_words.specs.declared.step.Step.TheVariants as steps

-- A caller at work has an open transaction, and its stance is waiting or leaving.
abbrev pub IsAtWork : Option Standing → Type 0
IsAtWork None = Unit {0}
IsAtWork (Some q) = (is_closed q ≡ false) × ((is_leaving q || is_waiting q) ≡ true)

pub at_work : (call : Call) (work : Work) → IsAtWork (work_phase call work)
at_work (calls.Op op) Operation = (refl, refl)
at_work (calls.Op op) (Busy x k) = (refl, refl)
at_work (calls.Back n) (Leaving k) = (refl, refl)
at_work calls.Abort (Leaving k) = (refl, refl)
at_work call work = tt

asking : (call : Call) (q : Standing) → work_phase call Operation ≡ Some q → (op : Op) × (q ≡ stances.Waiting op)
asking (calls.Op op) q is = (op, cc is)
asking call q is = absurd (cc is)

nothing_only : (b : Bool) (r : Refusal) → or_else (cond (not b) (Some NothingToSeek) None) None ≡ Some r → (b ≡ false) × (r ≡ NothingToSeek)
nothing_only true r is = absurd (cc is)
nothing_only false r is = (refl, cc is)

seek_refused : (m : State) (c : ℕ) (r : Refusal) → nat_le m.limits.callers c ≡ false → is_closed (stance_in m.history c).phase ≡ false → IsAllowed m (steps.Seek c) (answers.Refused r)
    → (has_target (stance_in m.history c) ≡ false) × (r ≡ NothingToSeek)
seek_refused m c r within there (inl is) =
    nothing_only (has_target (stance_in m.history c)) r
    (sym (refusal_parts m c (steps.Seek c) refl
    ∙ (λ i. cond (within i) (Some refusals.NoSuchCaller) (or_else (cond (there i) (Some refusals.NotOpen) (cond (not (has_target (stance_in m.history c))) (Some NothingToSeek) None)) None))) ∙ is)
seek_refused m c r within there (inr lack) = absurd lack.1

-- `passes` and `ReplyIf` say which answers to an act are allowed in the phase of a call's work. If
-- an answer is allowed, the call may have the end that the answer gives.
abbrev passes : (Standing → Bool) → Option Standing → Bool
passes test None = false
passes test (Some q) = test q

abbrev ReplyIf : Option Standing → Map → Option ℕ → Type 0
ReplyIf None m r = ⊥
ReplyIf (Some q) m r = IsReply q m r

done_plain : (call : Call) (work : Work) (m : Map) (r : Option ℕ) → ReplyIf (work_phase call work) m r → is_odd call (end_last call work (answers.Done r)) ≡ false
done_plain (calls.Op op) Operation m r reply = refl
done_plain call (Leaving k) m r reply = absurd reply
done_plain call work m r reply = absurd reply

returned_plain : (call : Call) (work : Work) (n : ℕ) → passes (is_back_at n) (work_phase call work) ≡ true → is_odd call (end_last call work (answers.Returned n)) ≡ false
returned_plain (calls.Back level) (Leaving k) n back = ap (λ b. is_odd (calls.Back level) (if b then ends.Answered (answers.Returned n) else ends.Refused OutOfStep)) back
returned_plain call Operation n back = absurd (false≢true back)
returned_plain call work n back = absurd (false≢true back)

aborted_plain : (call : Call) (work : Work) → passes is_at_end (work_phase call work) ≡ true → is_odd call (end_last call work answers.Aborted) ≡ false
aborted_plain (calls.Op op) (Busy x k) ended = refl
aborted_plain call Operation ended = absurd (false≢true ended)
aborted_plain calls.Abort (Leaving k) ended = refl
aborted_plain call work ended = absurd (false≢true ended)

-- `s` is the caller's stance after the move.
module _ (m n : State) (c : ℕ) (s : Stance) (call : Call) (within : nat_le m.limits.callers c ≡ false) where
  -- A seek finds nothing only if no change is left to take back.
  nothing_suits : (work : Work) (again : ℕ) → work_phase call work ≡ Some s.phase → has_target s ≡ false → Suits n s c call (told_seek work again (answers.Refused NothingToSeek))
  nothing_suits Operation again fits none = absurd (false≢true (sym none ∙ ap (λ q. is_waiting q || has_job s) (asking call s.phase fits).1))
  nothing_suits work again fits none = (fits, ap (λ b. b && not (is_some (caller_changes n.cursors c))) none)

  placed_suits : (work : Work) (again : ℕ) → work_phase call work ≡ Some s.phase → is_some (caller_changes n.cursors c) ≡ true → Suits n s c call (told_seek work again answers.Placed)
  placed_suits Operation again fits there = (fits, ap (λ b. has_target s && not b) there ∙ and_none (has_target s))
  placed_suits work again fits there = (fits, ap (λ b. has_target s && not b) there ∙ and_none (has_target s))

  pub suits_seek : (work : Work) (again : ℕ) (a : Answer) → c < length m.cursors → s ≡ stance_in m.history c → work_phase call work ≡ Some s.phase → Move m (steps.Seek c) a n
      → Suits n s c call (told_seek work again a)
  suits_seek work again answers.Placed there is fits move =
      placed_suits work again fits (ap (λ (x : State). is_some (caller_changes x.cursors c)) move.state ∙ ap is_some (set_there m.cursors c (Some n.changes) None there))
  suits_seek work again (answers.Refused r) there is fits move =
      let open_so = (subst IsAtWork (fits ∙ ap (λ (t : Stance). Some t.phase) is) (at_work call work)).0 in
      let nothing = seek_refused m c r within open_so move.allowed in
      subst (λ r. Suits n s c call (told_seek work again (answers.Refused r))) (sym nothing.1) (nothing_suits work again fits (ap has_target is ∙ nothing.0))
  suits_seek work again a there is fits move = absurd move.allowed.1

  -- If fewer than 2^64 - 1 changes were taken back, the call continues after one more change is
  -- taken back, and its next phase suits the stance and the core.
  counted_suits : (k : ℕ) (more work : Work) → k < 2 ^ 64 - 1 → SuitsStance s call (counted k more work)
      → Suits n s c call (counted k more work)
  counted_suits k more work few =
      subst (λ b. SuitsStance s call (if b then Seeking more 0 else Last work answers.Undone) → Suits n s c call (if b then Seeking more 0 else Last work answers.Undone)) (sym (lt-ltb k (2 ^ 64 - 1) few))
      (λ fits. fits)

  undone_suits : (t : Stance) (work : Work) → undone_in work < 2 ^ 64 - 1 → work_phase call work ≡ Some t.phase → has_job t ≡ true → SuitsStance s call (undone_more work) → Suits n s c call (undone_more work)
  undone_suits t Operation few at job fits = absurd (false≢true (ap (λ q. has_job (record t { phase = q })) (sym (asking call t.phase at).1) ∙ job))
  undone_suits t (Busy x k) few at job fits = counted_suits k (Busy x (k + 1)) (Busy x k) few fits
  undone_suits t (Leaving k) few at job fits = counted_suits k (Leaving (k + 1)) (Leaving k) few fits

  pub suits_act : (work : Work) (again : ℕ) (a : Answer) → undone_in work < 2 ^ 64 - 1 → work_phase call work ≡ Some (stance_in m.history c).phase
      → lacks_in (stance_in m.history c) (is_some (caller_changes m.cursors c)) (steps.Act c) ≡ false → Move m (steps.Act c) a n → SuitsStance s call (told_act work again a) → Suits n s c call (told_act work again a)
  suits_act work again (answers.Refused r) few at cursor move fits =
      let busy = subst IsAtWork at (at_work call work) in
      absurd (never_refused m (steps.Act c) r (act_free m c within busy.0 busy.1 cursor) move.allowed)
  suits_act work again answers.Again few at cursor move fits = fits
  suits_act work again (answers.Done r) few at cursor move fits = done_plain call work _ r (subst (λ o. ReplyIf o (now m.history) r) (sym at) move.allowed.1)
  suits_act work again answers.Undone few at cursor move fits = undone_suits (stance_in m.history c) work few at move.allowed.1 fits
  suits_act work again (answers.Returned k) few at cursor move fits =
      returned_plain call work k (ap (passes (is_back_at k)) at ∙ (and_parts (not (has_job (stance_in m.history c))) (is_back_at k (stance_in m.history c).phase) move.allowed.1).1)
  suits_act work again answers.Aborted few at cursor move fits =
      aborted_plain call work (ap (passes is_at_end) at ∙ (and_parts (not (has_job (stance_in m.history c))) (is_at_end (stance_in m.history c).phase) move.allowed.1).1)
  suits_act work again a few at cursor move fits = absurd move.allowed.1
