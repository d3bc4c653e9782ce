-- An attempt at a script: the call of each stage, and the progress after the end of a call.
use Rattle.std.specs.Prelude.{ℕ, ◌+◌, nat_lt, if◌then◌else◌, List, Option, Some, None, slice_get}
use Rattle.txn_words.specs.declared.action.Action.{Action}
use Rattle.txn_words.specs.declared.action.Action.TheVariants as actions
use Rattle.txn_words.specs.declared.refusal.Refusal.{Refusal}
use Rattle.txn_words.specs.declared.refusal.Refusal.TheVariants.{OutOfStep}
use Rattle.txn_drive.specs.declared.call.Call.{Call}
use Rattle.txn_drive.specs.declared.call.Call.TheVariants as calls
use Rattle.txn_drive.specs.declared.«end».End.{End}
use Rattle.txn_drive.specs.declared.«end».End.TheVariants as ends
use Rattle.script_worker.specs.declared.attempt.Stage.{Stage}
use Rattle.script_worker.specs.declared.attempt.Stage.TheVariants.{Beginning, Acting, Leaving}
use Rattle.script_worker.specs.declared.attempt.Attempt.{Attempt}
use Rattle.script_worker.specs.declared.attempt.Finish.TheVariants as finishes
use Rattle.script_worker.specs.declared.attempt.Progress.{Progress}
use Rattle.script_worker.specs.declared.attempt.Progress.TheVariants.{Next, Over}

-- The attempt that has reached this stage. `again` attempts were made before it.
abbrev pub attempt_at : ℕ → Stage → Attempt
attempt_at again stage = record { again = again; stage = stage }

abbrev pub first_attempt : Attempt
first_attempt = attempt_at 0 Beginning

-- The call that does this action.
abbrev pub call_for : Action → Call
call_for (actions.Op op) = calls.Op op
call_for actions.Save = calls.Save
call_for (actions.Back n) = calls.Back n
call_for (actions.Help k) = calls.Help k
call_for actions.Abort = calls.Abort

-- The call that does this action, or the commit if no action is left.
abbrev pub call_of : Option Action → Call
call_of (Some action) = call_for action
call_of None = calls.Commit

-- The call that an attempt makes at this stage.
abbrev pub call_at : List Action → Stage → Call
call_at script Beginning = calls.Begin
call_at script (Acting i) = call_of (slice_get script i)
call_at script (Leaving refusal) = calls.Abort

-- The progress after an action that was done. `None` stands for the commit. After an abort or the
-- commit, the script is over. After any other action, the script goes to its next action.
abbrev pub done_with : ℕ → ℕ → Option Action → Progress
done_with again i None = Over finishes.Committed
done_with again i (Some actions.Abort) = Over finishes.Aborted
done_with again i (Some action) = Next (attempt_at again (Acting (i + 1)))

-- The progress of the script after the call of this stage has succeeded.
abbrev pub done_at : List Action → ℕ → Stage → Progress
done_at script again Beginning = Next (attempt_at again (Acting 0))
done_at script again (Acting i) = done_with again i (slice_get script i)
done_at script again (Leaving refusal) = Over (finishes.Refused refusal)

-- The progress after an attempt that found a stripe held. The script is attempted again if fewer
-- than `tries` attempts were made before this attempt.
abbrev pub busy_at : ℕ → ℕ → Progress
busy_at tries again =
    if nat_lt again tries then Next (attempt_at (again + 1) Beginning) else Over finishes.Busy

-- The progress after a refused action. `None` stands for the commit. If an abort or the commit is
-- refused, the script is over. If any other action is refused, the transaction is aborted.
abbrev pub refused_with : ℕ → Option Action → Refusal → Progress
refused_with again None refusal = Over (finishes.Refused refusal)
refused_with again (Some actions.Abort) refusal = Over (finishes.Refused refusal)
refused_with again (Some action) refusal = Next (attempt_at again (Leaving refusal))

abbrev pub refused_in : List Action → ℕ → Stage → Refusal → Progress
refused_in script again (Acting i) refusal = refused_with again (slice_get script i) refusal
refused_in script again stage refusal = Over (finishes.Refused refusal)

-- The progress after a refused call. `OutOfStep` ends the script at once.
abbrev pub progress_refused : List Action → ℕ → Stage → Refusal → Progress
progress_refused script again stage OutOfStep = Over (finishes.Refused OutOfStep)
progress_refused script again stage refusal = refused_in script again stage refusal

-- The progress of the script after the call of this stage has ended with the given end.
abbrev pub progress_at : List Action → ℕ → ℕ → Stage → End → Progress
progress_at script tries again stage (ends.Answered answer) = done_at script again stage
progress_at script tries again stage ends.Helped = done_at script again stage
progress_at script tries again stage (ends.Busy holder) = busy_at tries again
progress_at script tries again stage (ends.Refused refusal) = progress_refused script again stage
    refusal

abbrev pub progress_of : List Action → ℕ → Attempt → End → Progress
progress_of script tries attempt outcome =
    progress_at script tries attempt.again attempt.stage outcome
