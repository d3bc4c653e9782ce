-- A worker: the script that it runs, its next step, and its state after it is given the answer to
-- that step.
use Rattle.std.specs.Prelude.{◌≡◌, ℕ, ◌+◌, nat_lt, Bool, if◌then◌else◌, List, length, Option, Some, None, is_some, slice_get}
use Rattle.std.specs.Option.{option_map, option_and_then, option_or}
use Rattle.txn_words.specs.declared.action.Action.{Action}
use Rattle.txn_words.specs.declared.answer.Answer.{Answer}
use Rattle.txn_words.specs.declared.answer.Answer.TheVariants as answers
use Rattle.txn_words.specs.declared.step.Step.{Step}
use Rattle.txn_words.specs.Sizes.{Sizes}
use Rattle.txn_drive.specs.declared.call.Call.TheVariants as calls
use Rattle.txn_drive.specs.declared.drive.Drive.{Drive}
use Rattle.txn_drive.specs.declared.«end».End.{End}
use Rattle.txn_drive.specs.declared.turn.Turn.{Turn}
use Rattle.txn_drive.specs.declared.turn.Turn.TheVariants.{One, Two, Ended}
use Rattle.txn_drive.specs.Drives.{new_drive, sized_of, turn_of, told_of, step_of, end_of}
use Rattle.txn_drive.specs.Turns.{TakesTurn}
use Rattle.script_worker.specs.declared.attempt.Finish.{Finish}
use Rattle.script_worker.specs.declared.attempt.Progress.{Progress}
use Rattle.script_worker.specs.declared.attempt.Progress.TheVariants.{Next, Over}
use Rattle.script_worker.specs.declared.task.Task.{Task}
use Rattle.script_worker.specs.Attempts.{first_attempt, call_at, progress_of}

-- A worker as contracts see it: its number, the limits of the map, and the script that it runs, if
-- one is left. The map's callers are the workers.
pub record Standing : Type 0 where
  pub number : ℕ
  pub limits : Sizes
  pub task : Option Task

-- The first attempt at script `n`, or `None` if there is no such script.
abbrev pub started : Bool → List (List Action) → ℕ → ℕ → Option Task
started half scripts w n =
    if nat_lt n (length scripts)
    then Some (record { script = n; attempt = first_attempt; drive = new_drive half w calls.Begin })
    else None

-- The worker before its first step.
abbrev pub new_worker : List (List Action) → ℕ → Sizes → Standing
new_worker scripts w limits =
    record { number = w; limits = limits; task = started limits.half scripts w w }

-- The worker's task after a call of its present script has led to this progress. It is the next
-- call of this script or, if the script is over, the first call of the worker's next script.
abbrev pub followed : List (List Action) → ℕ → Sizes → Task → List Action → Progress → Option Task
followed scripts w limits task script (Next attempt) =
    Some (record {
      script = task.script;
      attempt = attempt;
      drive = new_drive limits.half w (call_at script attempt.stage);
    })
followed scripts w limits task script (Over finish) =
    started limits.half scripts w (task.script + limits.callers)

-- The worker's task after the call of this task has ended with `outcome`. It is `None` if no script
-- is left, or if no script has the task's number.
abbrev pub progressed : List (List Action) → ℕ → ℕ → Sizes → Task → End → Option Task
progressed scripts tries w limits task outcome =
    option_and_then (λ script. followed scripts w limits task script
    (progress_of script tries task.attempt outcome)) (slice_get scripts task.script)

-- If the task's call has ended, gives the worker's next task (`progressed`). If the call has not
-- ended, the task stays the same.
abbrev pub settled_in : List (List Action) → ℕ → ℕ → Sizes → Task → Option End → Option Task
settled_in scripts tries w limits task None = Some task
settled_in scripts tries w limits task (Some outcome) =
    progressed scripts tries w limits task outcome

abbrev pub settled : List (List Action) → ℕ → ℕ → Sizes → Option Task → Option Task
settled scripts tries w limits None = None
settled scripts tries w limits (Some task) =
    settled_in scripts tries w limits task (end_of task.drive)

-- How the script ended, if this progress ends the script.
abbrev pub finish_of : Progress → Option Finish
finish_of (Next attempt) = None
finish_of (Over finish) = Some finish

-- How the task's script ended, given the end of the task's call. None if the script continues after
-- this call.
abbrev pub finish_at : List (List Action) → ℕ → Task → End → Option Finish
finish_at scripts tries task outcome =
    option_and_then (λ script. finish_of (progress_of script tries task.attempt outcome))
    (slice_get scripts task.script)

-- How the task's script ended. None if the task's call has not ended, or if the script continues
-- after this call.
abbrev pub finish_by : List (List Action) → ℕ → Option Task → Option Finish
finish_by scripts tries None = None
finish_by scripts tries (Some task) =
    option_and_then (finish_at scripts tries task) (end_of task.drive)

-- The task, with the function `f` applied to its drive.
abbrev pub with_drive : (Drive → Drive) → Option Task → Option Task
with_drive f None = None
with_drive f (Some task) = Some (record task { drive = f task.drive })

-- The task after its drive has been given this answer.
abbrev pub drive_told : Option Task → Answer → Option Task
drive_told task answer = with_drive (λ drive. told_of drive answer) task

-- The task of a worker after it has been given this answer. `settled` is applied twice, since the
-- call that follows may end before its first step.
abbrev pub task_told : List (List Action) → ℕ → ℕ → Sizes → Option Task → Answer → Option Task
task_told scripts tries w limits task answer =
    settled scripts tries w limits (settled scripts tries w limits (drive_told task answer))

-- How the task's script ended, if this answer ended it.
abbrev pub finish_after : List (List Action) → ℕ → ℕ → Sizes → Option Task → Answer
    → Option Finish
finish_after scripts tries w limits task answer =
    option_or (finish_by scripts tries (drive_told task answer))
    (finish_by scripts tries (settled scripts tries w limits (drive_told task answer)))

-- The worker after its drive has been given this answer.
abbrev pub told_drive : Standing → Answer → Standing
told_drive worker answer = record worker { task = drive_told worker.task answer }

-- The worker after it has been given this answer.
abbrev pub told_by : List (List Action) → ℕ → Standing → Answer → Standing
told_by scripts tries worker answer = record worker {
  task = task_told scripts tries worker.number worker.limits worker.task answer;
}

-- How the worker's script ended, if this answer ended it.
abbrev pub finish_told : List (List Action) → ℕ → Standing → Answer → Option Finish
finish_told scripts tries worker answer =
    finish_after scripts tries worker.number worker.limits worker.task answer

-- The worker after it has noted the table's size.
abbrev pub sized_by : ℕ → Standing → Standing
sized_by size worker = record worker { task = with_drive (sized_of size) worker.task }

-- The worker's next turn, or `None` if no script is left.
abbrev pub turn_by : Standing → Option Turn
turn_by worker = option_map (λ task. turn_of task.drive) worker.task

-- The next step of a task. `step_by` gives the next step of a worker.
abbrev pub task_step : Option Task → Option Step
task_step task = option_and_then (λ task. step_of task.drive) task

abbrev pub step_by : Standing → Option Step
step_by worker = task_step worker.task

-- If there is a task, it has a step to take: its call has not ended.
abbrev pub IsReadyTask : Option Task → Type 0
IsReadyTask task = is_some (task_step task) ≡ is_some task

abbrev pub IsReady : Standing → Type 0
IsReady worker = IsReadyTask worker.task

-- The first step of the turn is the worker's next step. A second step is the worker's next step
-- after the answer `Placed`. If there is no turn, no script is left.
abbrev pub IsTurnBy : Standing → Option Turn → Type 0
IsTurnBy worker None = worker.task ≡ None
IsTurnBy worker (Some (One step)) = step_by worker ≡ Some step
IsTurnBy worker (Some (Two step next)) =
    (step_by worker ≡ Some step) × (step_by (told_drive worker answers.Placed) ≡ Some next)
IsTurnBy worker (Some (Ended outcome)) = ⊥

-- The state on which a worker takes its steps, and the worker. `finish` says how the worker's
-- script ended, if it ended in this turn.
pub record Working (X : Type 0) : Type 0 where
  pub taker : X
  pub worker : Standing
  pub finish : Option Finish

-- A step of the worker is taken, and the worker is given the answer.
pub record TakesStep {X : Type 0} (takes : X → Step → Answer → X → Type 0)
    (scripts : List (List Action)) (tries : ℕ)
    (old : Working X) (step : Step) (answer : Answer) (new : Working X) : Type 0 where
  pub taken : takes old.taker step answer new.taker
  pub told : new.worker ≡ told_by scripts tries old.worker answer
  pub ended : new.finish ≡ option_or (finish_told scripts tries old.worker answer) old.finish

-- The worker takes this turn, which has at least one step.
abbrev pub TakesTurnBy : {X : Type 0} → (X → Step → Answer → X → Type 0) → List (List Action) → ℕ
    → Working X → Option Turn → Working X → Type 0
TakesTurnBy takes scripts tries old None new = ⊥
TakesTurnBy takes scripts tries old (Some (Ended outcome)) new = ⊥
TakesTurnBy takes scripts tries old (Some turn) new =
    TakesTurn (TakesStep takes scripts tries) old turn new

-- The worker takes its next turn while the table has this size.
pub record TakesNext {X : Type 0} (takes : X → Step → Answer → X → Type 0)
    (size : ℕ) (scripts : List (List Action)) (tries : ℕ)
    (old : X) (before : Standing) (finish : Option Finish) (new : X)
    (after : Standing) : Type 0 where
  pub steps : TakesTurnBy takes scripts tries
      (record { taker = old; worker = sized_by size before; finish = None })
      (turn_by (sized_by size before))
      (record { taker = new; worker = after; finish = finish })
