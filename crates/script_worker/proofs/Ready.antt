-- A worker with a script left has a step to take.
use Rattle.std.proofs.Common.{◌≡◌, ℕ, ◌+◌, nat_lt, Bool, true, false, if◌then◌else◌, List, length, slice_get, Option, Some, None, is_some}
use Rattle.std.proofs.Common.{inl, inr, ◌⊎◌, refl, sym, ap, ◌∙◌}
use Rattle.script_worker.proofs.Vocabulary.{Action, Answer, BadKey, Call, call_at, call_of, Doubling, Drive, End, end_of, ended_by}
use Rattle.script_worker.proofs.Vocabulary.{first_attempt, followed, Fresh, goes_on, is_bad_key, IsReadyTask, new_drive, Next, Over, Phase}
use Rattle.script_worker.proofs.Vocabulary.{Progress, progress_at, Refused, settled, settled_in, Sizes, Stage, started, Step, step_in}
use Rattle.script_worker.proofs.Vocabulary.{step_of, Task, task_told, told_of, turn_in}

-- A drive that has not ended has a step to take.
steps_in : (c : ℕ) (call : Call) (phase : Phase) → ended_by (turn_in c call phase) ≡ None → is_some (step_in c call phase) ≡ true
steps_in c call Fresh is = refl
steps_in c call phase is = cc is

-- The drive has a step to take. By `steps_ended`, such a drive has not ended.
abbrev HasStep : Drive → Type 0
HasStep drive = is_some (step_of drive) ≡ true

pub steps_ended : (o : Option Step) (drive : Drive) → step_of drive ≡ o → is_some o ≡ true → end_of drive ≡ None
steps_ended None drive is some = absurd (cc some)
steps_ended (Some step) drive is some = goes_on drive step is

-- The task's drive is new, and makes the call of the attempt's present stage. `IsCalledIfAny`: if
-- there is a task, its drive has a step to take, or `IsCalled` holds.
abbrev IsCalled : List (List Action) → Task → Type 0
IsCalled scripts task = (half : Bool) × (caller : ℕ) × (script : List Action) × (slice_get scripts task.script ≡ Some script)
    × (task.drive ≡ new_drive half caller (call_at script task.attempt.stage))

abbrev IsCalledIfAny : List (List Action) → Option Task → Type 0
IsCalledIfAny scripts None = Unit {0}
IsCalledIfAny scripts (Some task) = HasStep task.drive ⊎ IsCalled scripts task

called_started : (half : Bool) (scripts : List (List Action)) (w n : ℕ) → IsCalledIfAny scripts (started half scripts w n)
called_started half scripts w n =
    elim (nat_lt n (length scripts)) as (λ b. IsCalledIfAny scripts (if b then Some (record { script = n; attempt = first_attempt; drive = new_drive half w Call.Begin }) else None)) [ true ↦ inl refl | false ↦ tt ]

module _ (scripts : List (List Action)) (tries w : ℕ) (limits : Sizes) where
  -- The task that follows an ended call has a drive that is new or has a step to take.
  called_followed : (task : Task) (script : List Action) (progress : Progress) → slice_get scripts task.script ≡ Some script → IsCalledIfAny scripts (followed scripts w limits task script progress)
  called_followed task script (Next attempt) there = inr (limits.half, w, script, there, refl)
  called_followed task script (Over outcome) there = called_started limits.half scripts w (task.script + limits.callers)

  called_in : (task : Task) (o : Option End) (script : Option (List Action)) → end_of task.drive ≡ o
      → slice_get scripts task.script ≡ script → IsCalledIfAny scripts (settled_in scripts tries w limits task o)
  called_in task None script ended there = inl (steps_in task.drive.caller task.drive.call task.drive.phase ended)
  called_in task (Some outcome) None ended there = rw there tt
  called_in task (Some outcome) (Some script) ended there = rw there (called_followed task script _ there)

  -- The task that follows an ended call has a step to take. Only a call for help with a bad key
  -- ends before its first step, and the abort that follows it has a step to take.
  abbrev FollowsReady : Task → List Action → Progress → Type 0
  FollowsReady task script progress = IsReadyTask (followed scripts w limits task script progress)

  ready_action : (half : Bool) (again : ℕ) (task : Task) (script : List Action) (i c : ℕ) (o : Option Action) (outcome : End)
      → slice_get script i ≡ o → end_of (new_drive half c (call_of o)) ≡ Some outcome
      → FollowsReady task script (progress_at script tries again (Stage.Acting i) outcome)
  ready_action half again task script i c (Some (Action.Help key)) outcome here ended = by (is_bad_key half key) ended
    where
      by : (b : Bool) → ended_by (turn_in c (Call.Help key) (if b then Refused BadKey else Doubling 0)) ≡ Some outcome
          → FollowsReady task script (progress_at script tries again (Stage.Acting i) outcome)
      by true ended = let same : outcome ≡ End.Refused BadKey = cc ended in rw (same, here)
      by false ended = absurd (cc ended)
  ready_action half again task script i c o outcome here ended = absurd (cc ended)

  ready_stage : (half : Bool) (again : ℕ) (task : Task) (script : List Action) (c : ℕ) (stage : Stage) (outcome : End)
      → end_of (new_drive half c (call_at script stage)) ≡ Some outcome → FollowsReady task script (progress_at script tries again stage outcome)
  ready_stage half again task script c (Stage.Acting i) outcome ended = ready_action half again task script i c (slice_get script i) outcome refl ended
  ready_stage half again task script c stage outcome ended = absurd (cc ended)

  -- When a task has been settled twice, its drive has a step to take.
  ready_in : (task : Task) (o : Option End) → end_of task.drive ≡ o → HasStep task.drive ⊎ IsCalled scripts task
      → IsReadyTask (settled_in scripts tries w limits task o)
  ready_in task None ended called = steps_in task.drive.caller task.drive.call task.drive.phase ended
  ready_in task (Some outcome) ended (inl steps) = absurd (cc (ended, steps_ended _ task.drive refl steps))
  ready_in task (Some outcome) ended (inr (half, c, script, there, new)) =
      rw there (ready_stage half task.attempt.again task script c task.attempt.stage outcome (ap end_of (sym new) ∙ ended))

  ready_at : (task : Option Task) → IsCalledIfAny scripts task → IsReadyTask (settled scripts tries w limits task)
  ready_at None called = refl
  ready_at (Some task) called = ready_in task (end_of task.drive) refl called

  -- After a worker is given an answer, its task has a step to take, whatever the task was before.
  pub told_ready : (task : Option Task) (answer : Answer) → IsReadyTask (task_told scripts tries w limits task answer)
  told_ready None answer = refl
  told_ready (Some task) answer = ready_at _ (called_in (record task { drive = told_of task.drive answer }) _ _ refl refl)
