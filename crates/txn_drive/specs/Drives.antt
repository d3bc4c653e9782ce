-- The phases of a drive: for each phase, its step, its turn, and the next phase after an answer.
use Rattle.std.specs.Prelude.{◌≡◌, ℕ, ◌+◌, ◌-◌, ◌^◌, ◌%◌, ◌==◌, Bool, nat_lt, ◌&&◌, if◌then◌else◌, Option, Some, None}
use Rattle.txn_words.specs.declared.step.Step.{Step}
use Rattle.txn_words.specs.declared.step.Step.TheVariants as steps
use Rattle.txn_words.specs.declared.answer.Answer.{Answer}
use Rattle.txn_words.specs.declared.answer.Answer.TheVariants as answers
use Rattle.txn_words.specs.declared.refusal.Refusal.{Refusal}
use Rattle.txn_words.specs.declared.refusal.Refusal.TheVariants.{BadKey, NothingToSeek, NoMemory, StampsUsedUp, OutOfStep}
use Rattle.txn_words.specs.Sizes.{is_bad_key}
use Rattle.txn_drive.specs.declared.call.Call.{Call}
use Rattle.txn_drive.specs.declared.call.Call.TheVariants as calls
use Rattle.txn_drive.specs.declared.drive.Drive.{Drive}
use Rattle.txn_drive.specs.declared.«end».End.{End}
use Rattle.txn_drive.specs.declared.«end».End.TheVariants as ends
use Rattle.txn_drive.specs.declared.phase.Phase.{Phase}
use Rattle.txn_drive.specs.declared.phase.Phase.TheVariants.{Fresh, Seeking, Acting, Doubling, Initialising, Linking, Storing, First, Last, Lost, Helped, Refused}
use Rattle.txn_drive.specs.declared.phase.Work.{Work}
use Rattle.txn_drive.specs.declared.phase.Work.TheVariants.{Operation, Busy, Leaving}
use Rattle.txn_drive.specs.declared.turn.Turn.{Turn}
use Rattle.txn_drive.specs.declared.turn.Turn.TheVariants.{One, Two, Ended}
use Rattle.txn_drive.specs.declared.way.Way.{Way}
use Rattle.txn_drive.specs.Ways.{child_towards}

-- The first phase of a drive for this call. If only keys below 2^63 are allowed, a `Help` with a
-- key of 2^63 or more is refused. Any other `Help` begins with the step that doubles the table. Any
-- other call begins in `Fresh`.
abbrev pub first_phase : Bool → Call → Phase
first_phase half (calls.Help key) = if is_bad_key half key then Refused BadKey else Doubling 0
first_phase half call = Fresh

abbrev pub new_drive : Bool → ℕ → Call → Drive
new_drive half c call = record { caller = c; call = call; phase = first_phase half call }

-- The phase with the table's present size stored in it. Only the phase `Doubling` stores the size.
-- Any other phase stays as it is.
abbrev pub sized_in : ℕ → Phase → Phase
sized_in size (Doubling seen) = Doubling size
sized_in size phase = phase

abbrev pub sized_of : ℕ → Drive → Drive
sized_of size drive = record drive { phase = sized_in size drive.phase }

-- The step that a drive for this call takes in the phase `Fresh`. The drive for a call `Help`
-- begins in another phase (`first_phase`).
abbrev pub first_step : ℕ → Call → Step
first_step c calls.Begin = steps.Begin c
first_step c (calls.Op op) = steps.Ask c op
first_step c calls.Save = steps.Save c
first_step c (calls.Back n) = steps.Back c n
first_step c calls.Commit = steps.Commit c
first_step c calls.Abort = steps.Abort c
first_step c (calls.Help key) = steps.Double 0

-- The step that a drive takes in this phase, or None if the drive has ended. The answer to this
-- step is the next answer that the drive is given.
abbrev pub step_in : ℕ → Call → Phase → Option Step
step_in c call Fresh = Some (first_step c call)
step_in c call (Seeking work again) = Some (steps.Seek c)
step_in c call (Acting work again) = Some (steps.Act c)
step_in c call (Doubling size) = Some (steps.Double size)
step_in c call (Initialising way again) = Some (steps.InitSeek c way.bucket)
step_in c call (Linking way again) = Some (steps.InitLink c)
step_in c call (Storing way) = Some (steps.InitStore c)
step_in c call phase = None

abbrev pub step_of : Drive → Option Step
step_of drive = step_in drive.caller drive.call drive.phase

-- How a call ends if its first step was its last, given the answer to that step.
abbrev pub end_first : Call → Answer → End
end_first call (answers.Refused refusal) = ends.Refused refusal
end_first calls.Begin (answers.Began t) = ends.Answered (answers.Began t)
end_first calls.Save (answers.Saved n) = ends.Answered (answers.Saved n)
end_first calls.Commit (answers.Committed p) = ends.Answered (answers.Committed p)
end_first call answer = ends.Refused OutOfStep

-- The end of a call that goes back to the level `level`. Its last answer says that the caller has
-- reached the level `reached`. If the two levels differ, the call is refused with `OutOfStep`.
abbrev pub end_returned : ℕ → ℕ → End
end_returned level reached =
    if reached == level then ends.Answered (answers.Returned reached) else ends.Refused OutOfStep

-- How a call ends if its last step was `Act`, given the call's work and the answer to this step.
abbrev pub end_last : Call → Work → Answer → End
end_last (calls.Op op) Operation (answers.Done reply) = ends.Answered (answers.Done reply)
end_last (calls.Op op) (Busy holder undone) answers.Aborted = ends.Busy holder
end_last (calls.Back level) (Leaving undone) (answers.Returned reached) = end_returned level reached
end_last calls.Abort (Leaving undone) answers.Aborted = ends.Answered answers.Aborted
end_last call work answer = ends.Refused OutOfStep

-- How a call for help ends after all buckets on the helper's path are initialised.
abbrev pub end_helped : Call → End
end_helped (calls.Help key) = ends.Helped
end_helped call = ends.Refused OutOfStep

-- A turn that seeks a position. After eight answers `Again` in a row, the turn has a second step,
-- which acts at the position. Before that, it only seeks the position.
abbrev pub paired : ℕ → Step → Step → Turn
paired again seeking acting = if nat_lt again 8 then One seeking else Two seeking acting

-- The turn that a drive takes in this phase.
abbrev pub turn_in : ℕ → Call → Phase → Turn
turn_in c call Fresh = One (first_step c call)
turn_in c call (Seeking work again) = paired again (steps.Seek c) (steps.Act c)
turn_in c call (Acting work again) = One (steps.Act c)
turn_in c call (Doubling size) = One (steps.Double size)
turn_in c call (Initialising way again) =
    paired again (steps.InitSeek c way.bucket) (steps.InitLink c)
turn_in c call (Linking way again) = One (steps.InitLink c)
turn_in c call (Storing way) = One (steps.InitStore c)
turn_in c call (First answer) = Ended (end_first call answer)
turn_in c call (Last work answer) = Ended (end_last call work answer)
turn_in c call (Lost work) = Ended (ends.Refused OutOfStep)
turn_in c call Helped = Ended (end_helped call)
turn_in c call (Refused refusal) = Ended (ends.Refused refusal)

abbrev pub turn_of : Drive → Turn
turn_of drive = turn_in drive.caller drive.call drive.phase

-- The number of answers `again` in a row, after one more such answer. The count stops at eight.
abbrev pub one_more_again : ℕ → ℕ
one_more_again again = if nat_lt again 8 then again + 1 else again

-- The phase after the first step. After `Asked`, the position of the operation is sought. After
-- `Busy` or `Leaving`, changes are taken back. Any other answer ends the call.
abbrev pub told_first : Call → Answer → Phase
told_first (calls.Op op) answers.Asked = Seeking Operation 0
told_first (calls.Op op) (answers.Busy holder) = Seeking (Busy holder 0) 0
told_first (calls.Back level) answers.Leaving = Seeking (Leaving 0) 0
told_first calls.Abort answers.Leaving = Seeking (Leaving 0) 0
told_first call answer = First answer

-- The phase after the step `Seek`. If the position was found, or if no change remains to be taken
-- back, the next step is `Act`. If no change remains, this `Act` ends the call. Any other answer to
-- `Seek` ends the call at once.
abbrev pub told_seek : Work → ℕ → Answer → Phase
told_seek work again answers.Placed = Acting work again
told_seek (Busy holder undone) again (answers.Refused NothingToSeek) =
    Acting (Busy holder undone) again
told_seek (Leaving undone) again (answers.Refused NothingToSeek) = Acting (Leaving undone) again
told_seek work again answer = Lost work

-- The phase after `undone + 1` changes were taken back. The next step seeks the position of the
-- next change, for the work `more`. But if `undone + 1` does not fit in 64 bits, the call ends.
abbrev pub counted : ℕ → Work → Work → Phase
counted undone more work =
    if nat_lt undone (2 ^ 64 - 1) then Seeking more 0 else Last work answers.Undone

-- The phase after one more change was taken back. If the work is an operation, the call ends.
-- Otherwise `counted` gives the phase.
abbrev pub undone_more : Work → Phase
undone_more Operation = Last Operation answers.Undone
undone_more (Busy holder undone) = counted undone (Busy holder (undone + 1)) (Busy holder undone)
undone_more (Leaving undone) = counted undone (Leaving (undone + 1)) (Leaving undone)

-- The phase after the step `Act`. After the answer `Again`, the position is sought again. After
-- `Undone`, one more change has been taken back. Any other answer ends the call.
abbrev pub told_act : Work → ℕ → Answer → Phase
told_act work again answers.Again = Seeking work (one_more_again again)
told_act work again answers.Undone = undone_more work
told_act work again answer = Last work answer

-- The phase after the bucket `last` is initialised. `last` is on the path to `bucket`. If `last` is
-- `bucket`, the call for help ends. Otherwise the next bucket on the path is initialised.
abbrev pub towards : ℕ → ℕ → Phase
towards last bucket =
    if last == bucket then Helped
    else Initialising (record { bucket = child_towards last bucket; target = bucket }) 0

-- The phase in which a helper starts on its path to a key's bucket, in a table of this size. A
-- table's size is above 0 and below 2 ^ 32. Any other size ends the call for help with `OutOfStep`.
abbrev pub heading : ℕ → ℕ → Phase
heading key size =
    if nat_lt 0 size && nat_lt size (2 ^ 32) then towards 0 (key % size) else Refused OutOfStep

-- The phase after a helper's step was refused. If memory or stamps were used up, the call for help
-- ends with this refusal. Otherwise it ends with `OutOfStep`.
abbrev pub refused_help : Refusal → Phase
refused_help NoMemory = Refused NoMemory
refused_help StampsUsedUp = Refused StampsUsedUp
refused_help refusal = Refused OutOfStep

-- The phase after the step that doubles the table. The helper starts on its path to the bucket that
-- the key has at the table's present size. `seen` is the size that the step named.
abbrev pub told_help : ℕ → ℕ → Answer → Phase
told_help key seen (answers.Moved size) = heading key size
told_help key seen (answers.Doubled size) = heading key size
told_help key seen answers.AtLimit = heading key seen
told_help key seen answers.Light = heading key seen
told_help key seen (answers.Refused refusal) = refused_help refusal
told_help key seen answer = Refused OutOfStep

abbrev pub told_double : Call → ℕ → Answer → Phase
told_double (calls.Help key) seen answer = told_help key seen answer
told_double call seen answer = Refused OutOfStep

-- The phase after the position of a bucket's dummy was sought.
abbrev pub told_init_seek : Way → ℕ → Answer → Phase
told_init_seek way again answers.Ready = towards way.bucket way.target
told_init_seek way again answers.Placed = Linking way again
told_init_seek way again (answers.Refused refusal) = refused_help refusal
told_init_seek way again answer = Refused OutOfStep

-- The phase after the step that links a bucket's dummy.
abbrev pub told_link : Way → ℕ → Answer → Phase
told_link way again answers.Again = Initialising way (one_more_again again)
told_link way again answers.Present = Storing way
told_link way again answers.Linked = Storing way
told_link way again (answers.Refused refusal) = refused_help refusal
told_link way again answer = Refused OutOfStep

-- The phase after the step that stores a bucket's dummy.
abbrev pub told_store : Way → Answer → Phase
told_store way answers.Stored = towards way.bucket way.target
told_store way (answers.Refused refusal) = refused_help refusal
told_store way answer = Refused OutOfStep

-- The next phase, given the present phase and the answer to its step.
abbrev pub told_in : Call → Phase → Answer → Phase
told_in call Fresh answer = told_first call answer
told_in call (Seeking work again) answer = told_seek work again answer
told_in call (Acting work again) answer = told_act work again answer
told_in call (Doubling seen) answer = told_double call seen answer
told_in call (Initialising way again) answer = told_init_seek way again answer
told_in call (Linking way again) answer = told_link way again answer
told_in call (Storing way) answer = told_store way answer
told_in call phase answer = Refused OutOfStep

abbrev pub told_of : Drive → Answer → Drive
told_of drive answer = record drive { phase = told_in drive.call drive.phase answer }

-- The turn is the drive's next turn. Its first step is the drive's next step. If it has a second
-- step, this is the drive's step after the answer `placed`. If the turn is an end, the drive has no
-- next step.
abbrev pub IsTurnOf : Drive → Turn → Type 0
IsTurnOf drive (One step) = step_of drive ≡ Some step
IsTurnOf drive (Two step next) =
    (step_of drive ≡ Some step) × (step_of (told_of drive answers.Placed) ≡ Some next)
IsTurnOf drive (Ended outcome) = step_of drive ≡ None

-- The end of the call if the turn is an end, else None.
abbrev pub ended_by : Turn → Option End
ended_by (Ended outcome) = Some outcome
ended_by turn = None

-- The end of the call, if it has ended.
abbrev pub end_of : Drive → Option End
end_of drive = ended_by (turn_of drive)
