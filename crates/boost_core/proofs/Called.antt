-- The outcome of each step of a caller.
use Rattle.std.proofs.Common.{◌≡◌, ℕ, ◌-◌, ◌^◌, ◌<◌, ◌≤◌, Bool, true, false, List, Some, None, is_some, refl, sym, ap, subst, ◌∙◌, arith, slice_get, slice_set, map, inr, leb-false}
use Rattle.boost_core.proofs.Vocabulary.{false≢true, slice_get_within, slice_get-map, CallerStep, step_by, claim_in, Answer, key_of, Op, stripe_of, Counts, Session, caller_changes, refusal_of, Claim, Lock, Right, Held, Stale, IsClaim, times_in, World, Tells, state_of, session_changes, all_times, side_of, HasEffect, ActsIn, Saves, IsAsked, AsksBy, unless_busy, KeepsPlaced, MayTakeStep, Reach, reach, spare_if, times_kept, NoMemory}
use Rattle.boost_core.proofs.Outcomes.{Called, CalledBy}
use Rattle.boost_core.proofs.Spares.{owns_if}
use Rattle.boost_core.proofs.OneCaller.{one_of_sum}
use Rattle.boost_core.proofs.SideRefusals.{owner_by, free, stance_free, cursor_free, set_here, noted_some}
use Rattle.boost_core.proofs.BoundaryMoves.{begun, saved, left, committed, withdrawn, returned, ended}
use Rattle.boost_core.proofs.AskMoves.{asked_called, busy_called, ask_refused, save_refused, stale_called, held_called, word_stale_called}
use Rattle.boost_core.proofs.WorkMoves.{did_called, undone_called, sought_called, again_called}
use Rattle.txn_words.specs.declared.step.Step.TheVariants as steps
use Rattle.txn_words.specs.declared.answer.Answer.TheVariants as answers

no_words : (words : Bool) → (words ≡ true → true ≡ false) → words ≡ false
no_words true claims = absurd (false≢true (sym (claims refl)))
no_words false claims = refl

module _ (w : World) (tells : Tells w) (x : Session) (new : Reach) (keeps : KeepsPlaced w.table new.table) where
  abbrev old : Reach
  old = reach x w.table w.locks

  asked : (c : ℕ) (op : Op) → slice_get w.sessions c ≡ Some x → refusal_of (state_of w) (steps.Ask c op) ≡ None → stripe_of w.limits.stripes (key_of op) < w.limits.stripes → w.words ≡ false → (answer : Answer)
      → IsAsked c (stripe_of w.limits.stripes (key_of op)) op old answer new → Called w c x (steps.Ask c op) answer new.session new.table new.locks
  asked c op at none within words answers.Asked does = asked_called w tells c x at op none new does keeps within
  asked c op at none within words (answers.Busy holder) does = busy_called w tells c x at op none holder new does keeps within words
  asked c op at none within words (answers.Refused refusal) does = rw does.2 (ask_refused w tells c x at op none Lock refusal (λ move. move) new.session does.0 does.1)
  asked c op at none within words _ does = absurd does

  asked_with : (c : ℕ) (op : Op) → slice_get w.sessions c ≡ Some x → refusal_of (state_of w) (steps.Ask c op) ≡ None → stripe_of w.limits.stripes (key_of op) < w.limits.stripes → (own : Answer)
      → IsAsked c (stripe_of w.limits.stripes (key_of op)) op old own new → CalledBy Right w c x (steps.Ask c op) (unless_busy own) new.session new.table new.locks
  asked_with c op at none within answers.Asked does =
      let is = asked_called w tells c x at op none new does keeps within in
      record { comes = is.comes; move = λ stance'. inr (refl, is.move stance'); fresh = is.fresh }
  asked_with c op at none within (answers.Busy holder) does = stale_called w tells c x at op none holder new does keeps within
  asked_with c op at none within (answers.Refused refusal) does = rw does.2 (ask_refused w tells c x at op none Right refusal (λ move. inr (refl, move)) new.session does.0 does.1)
  asked_with c op at none within _ does = absurd does

  asked_by : (claim : Claim) (c : ℕ) (op : Op) → slice_get w.sessions c ≡ Some x → refusal_of (state_of w) (steps.Ask c op) ≡ None → stripe_of w.limits.stripes (key_of op) < w.limits.stripes → IsClaim claim (state_of w) (steps.Ask c op) → (answer : Answer)
      → AsksBy claim c (stripe_of w.limits.stripes (key_of op)) op old answer new → CalledBy claim w c x (steps.Ask c op) answer new.session new.table new.locks
  asked_by Lock c op at none within claims answer does = asked c op at none within (no_words w.words claims) answer does
  asked_by Right c op at none within claims answer does = rw does.1 (asked_with c op at none within does.0 does.2)
  asked_by (Held named) c op at none within claims answer does = rw (does.0, does.1) (held_called w tells c x at op none named claims.0 claims.1)
  asked_by Stale c op at none within claims answer does = rw (does.0, does.1) (word_stale_called w tells c x at op none)

  acted : (c : ℕ) → slice_get w.sessions c ≡ Some x → refusal_of (state_of w) (steps.Act c) ≡ None → (answer : Answer) → ActsIn c old answer new → Called w c x (steps.Act c) answer new.session new.table new.locks
  acted c at none answers.Again does = rw does.2 (again_called w tells c x at none does.0 new.session does.1)
  acted c at none (answers.Done reply) does = rw does.1 (did_called w tells c x at none reply new.session new.table does.0 keeps)
  acted c at none answers.Undone does = rw does.2 (undone_called w tells c x at none does.0 new.session new.table does.1 keeps)
  acted c at none (answers.Returned n) does = rw does.2 (returned w tells c x at none does.0 n new.session does.1)
  acted c at none answers.Aborted does = rw does.2 (ended w tells c x at none does.0 new.session new.locks does.1)
  acted c at none _ does = absurd does

  saved_here : (c : ℕ) → slice_get w.sessions c ≡ Some x → refusal_of (state_of w) (steps.Save c) ≡ None → (answer : Answer) → Saves x answer new.session → Called w c x (steps.Save c) answer new.session w.table w.locks
  saved_here c at none (answers.Saved n) does = saved w tells c x at none n new.session does
  saved_here c at none (answers.Refused NoMemory) does = save_refused w tells c x at none new.session does
  saved_here c at none _ does = absurd does

  -- The outcome of each step of a caller.
  pub called : (c : ℕ) (step : CallerStep) → slice_get w.sessions c ≡ Some x → refusal_of (state_of w) (step_by c step) ≡ None → 0 < w.limits.stripes → IsClaim (claim_in step) (state_of w) (step_by c step) → (answer : Answer)
      → HasEffect w.limits.stripes w.counts c step old answer new → CalledBy (claim_in step) w c x (step_by c step) answer new.session new.table new.locks
  called c CallerStep.Begin at none some claims (answers.Began n) does = rw does.1 (begun w tells c x at none n does.0)
  called c (CallerStep.Ask op claim) at none some claims answer does = asked_by claim c op at none (grind arith) claims answer does
  called c CallerStep.Seek at none some claims answers.Placed does = rw does.1 (sought_called w tells c x at none new.session new.table does.0 keeps)
  called c CallerStep.Act at none some claims answer does = acted c at none answer does
  called c CallerStep.Save at none some claims answer does = rw does.1 (saved_here c at none answer does.0)
  called c (CallerStep.Back n) at none some claims answers.Leaving does = rw does (left w tells c x at n none)
  called c CallerStep.Commit at none some claims (answers.Committed p) does = committed w tells c x at none p new.session new.table new.locks does.0 does.1 does.2
  called c CallerStep.Abort at none some claims answers.Leaving does = rw does.1 (withdrawn w tells c x at none new.session new.table does.0)
  called c _ at none some claims _ does = absurd does

-- If nothing refuses a step, its caller's side meets the requirements of the step.
pub takes : (w : World) → Tells w → (c : ℕ) (x : Session) → slice_get w.sessions c ≡ Some x → (step : CallerStep) → refusal_of (state_of w) (step_by c step) ≡ None
    → w.limits.callers ≤ 64 → 0 < w.limits.stripes → w.counts.began < 2 ^ 63 → w.counts.committed < 2 ^ 63 → MayTakeStep w.limits.stripes w.counts c step (reach x w.table w.locks)
takes w tells c x at step none callers some began done = record {
  goes = record {
    agrees = (tells.its_stance c x at).agrees;
    sought = tells.sought c x at;
    due = rw tells.content (tells.its_stance c x at).due;
    withdraws = owns_if w.table (spare_if x.pending) (all_times w.sessions) (λ place stamp.
        omega (arith, most place stamp)) tells.spares;
    settles = (
      λ place stamp. all_times w.sessions place stamp - times_in x.log.jobs place stamp,
      λ place stamp. omega (arith, most place stamp, tells.spares place stamp),
    );
  };
  free = (w.limits.half, stance_free w tells c x at (step_by c step) (owner_by c step) none);
  placed = cursor_free w tells c x at (step_by c step) (owner_by c step) none;
  caller = omega (arith, leb-false w.limits.callers c (free (state_of w) c (step_by c step) (owner_by c step) none).within);
  many = tells.stripes;
  some_stripe = some;
  begins = began;
  commits = done;
}
  where
    most : (place stamp : ℕ) → times_kept (side_of x) place stamp ≤ all_times w.sessions place stamp
    most place stamp = one_of_sum (λ s. times_kept (side_of s) place stamp) w.sessions c x at

-- After a step with the answer `Placed`, the step's caller has a cursor.
pub placed_cursor : (stripes : ℕ) (counts : Counts) (c : ℕ) (step : CallerStep) (old : Reach) (answer : Answer) (new : Reach) → HasEffect stripes counts c step old answer new → answer ≡ answers.Placed → is_some new.session.cursor ≡ true
placed_cursor stripes counts c step old answer new does is = at step (subst (λ a. HasEffect stripes counts c step old a new) is does)
  where
    not_own : (own : Answer) (op : Op) → answers.Placed ≡ unless_busy own → IsAsked c (stripe_of stripes (key_of op)) op old own new → ⊥
    not_own answers.Asked op is does = cc is
    not_own (answers.Busy holder) op is does = cc is
    not_own (answers.Refused refusal) op is does = cc is
    not_own _ op is does = does

    never_placed : (claim : Claim) (op : Op) → AsksBy claim c (stripe_of stripes (key_of op)) op old answers.Placed new → ⊥
    never_placed Lock op does = does
    never_placed Right op does = not_own does.0 op does.1 does.2
    never_placed _ op does = cc (does.0)

    at : (step : CallerStep) → HasEffect stripes counts c step old answers.Placed new → is_some new.session.cursor ≡ true
    at CallerStep.Seek does = ap (λ (s : Session). is_some s.cursor) does.0.becomes
    at (CallerStep.Ask op claim) does = absurd (never_placed claim op does)
    at CallerStep.Save does = absurd does.0
    at _ does = absurd does

-- If a caller's new side has a cursor, the state has a change number for that cursor.
pub changes_there : (sessions : List Session) (c : ℕ) (x z : Session) → slice_get sessions c ≡ Some x → is_some z.cursor ≡ true → is_some (caller_changes (map session_changes (slice_set sessions c z)) c) ≡ true
changes_there sessions c x z at some =
    rw (slice_get-map session_changes (slice_set sessions c z) c, set_here sessions c z (slice_get_within sessions c x at)) (noted_some z.cursor ∙ some)
