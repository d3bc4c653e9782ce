-- The entries that a drive has added to the history.
use Rattle.std.specs.Prelude.{◌≡◌, ℕ, List, [], ◌∷◌, ◌++◌, Some, None, filter, replicate}
use Rattle.txn_words.specs.declared.answer.Answer.{Answer}
use Rattle.txn_words.specs.declared.answer.Answer.TheVariants as answers
use Rattle.txn_words.specs.declared.entry.Entry.{Entry}
use Rattle.txn_words.specs.declared.entry.Entry.TheVariants as entries
use Rattle.txn_words.specs.declared.refusal.Refusal.{Refusal}
use Rattle.txn_words.specs.declared.refusal.Refusal.TheVariants.{OutOfStep}
use Rattle.txn_words.specs.declared.step.Step.TheVariants.{Act}
use Rattle.txn_drive.specs.declared.call.Call.{Call}
use Rattle.txn_drive.specs.declared.call.Call.TheVariants as calls
use Rattle.txn_drive.specs.declared.drive.Drive.{Drive}
use Rattle.txn_drive.specs.declared.«end».End.{End}
use Rattle.txn_drive.specs.declared.«end».End.TheVariants as ends
use Rattle.txn_drive.specs.declared.phase.Phase.{Phase}
use Rattle.txn_drive.specs.declared.phase.Phase.TheVariants.{Seeking, Acting, First, Last, Lost}
use Rattle.txn_drive.specs.declared.phase.Work.{Work}
use Rattle.txn_drive.specs.declared.phase.Work.TheVariants.{Operation, Busy, Leaving}
use Rattle.txn_drive.specs.declared.turn.Turn.{Turn}
use Rattle.txn_drive.specs.declared.turn.Turn.TheVariants.{Ended}
use Rattle.txn_words.specs.Entries.{entries_of}
use Rattle.txn_words.specs.Kinds.{is_commit}

-- How many changes the call has taken back so far, given the work that it does.
abbrev pub undone_in : Work → ℕ
undone_in Operation = 0
undone_in (Busy holder undone) = undone
undone_in (Leaving undone) = undone

-- One `Undone` entry of the caller for each change that the caller has taken back.
abbrev pub undone_by : ℕ → ℕ → List Entry
undone_by c undone = replicate undone (entries.Undone c)

-- The entry that a call's first step added to the history. After that step, the call does this
-- work.
abbrev pub opened_by : ℕ → Call → Work → List Entry
opened_by c (calls.Op op) Operation = entries.Asked c op ∷ []
opened_by c (calls.Op op) (Busy holder undone) = entries.Busy c op holder ∷ []
opened_by c (calls.Back level) (Leaving undone) = entries.Leave c (Some level) ∷ []
opened_by c calls.Abort (Leaving undone) = entries.Leave c None ∷ []
opened_by c call work = []

-- The entry that a call's first step added to the history, if the call ended with that step. The
-- answer to the step is given.
abbrev pub entered_by : ℕ → Call → Answer → List Entry
entered_by c calls.Begin (answers.Began t) = entries.Began c t ∷ []
entered_by c calls.Save (answers.Saved n) = entries.Saved c ∷ []
entered_by c calls.Commit (answers.Committed p) = entries.Committed c p ∷ []
entered_by c call answer = []

-- The entries that a call has added up to now, while it does this work.
abbrev pub made_by : ℕ → Call → Work → List Entry
made_by c call work = opened_by c call work ++ undone_by c (undone_in work)

-- The entries that a call has added by the time it is in this phase.
abbrev pub made_in : ℕ → Call → Phase → List Entry
made_in c call (Seeking work again) = made_by c call work
made_in c call (Acting work again) = made_by c call work
made_in c call (First answer) = entered_by c call answer
made_in c call (Last work answer) = made_by c call work ++ entries_of (Act c) answer
made_in c call (Lost work) = made_by c call work
made_in c call phase = []

-- The entries that a drive has added to the history.
abbrev pub made : Drive → List Entry
made drive = made_in drive.caller drive.call drive.phase

-- A refused call has added no entries. But nothing is claimed about a call refused with
-- `OutOfStep`, since a step of that call may have got an answer that no rule foresees.
abbrev pub MakesNone : Refusal → List Entry → Type 0
MakesNone OutOfStep h = Unit {0}
MakesNone refusal h = h ≡ []

-- The entries are the opening entry, then one entry for each change that was taken back, then the
-- closing entry.
abbrev pub IsUndoing : ℕ → Entry → List Entry → Entry → Type 0
IsUndoing c opening h closing = (undone : ℕ) × (h ≡ opening ∷ undone_by c undone ++ closing ∷ [])

-- The list holds the entries that the caller's call added to the history, if the call ended in this
-- way.
abbrev pub IsMade : ℕ → Call → End → List Entry → Type 0
IsMade c call (ends.Refused refusal) h = MakesNone refusal h
IsMade c calls.Begin (ends.Answered (answers.Began t)) h = h ≡ entries.Began c t ∷ []
IsMade c (calls.Op op) (ends.Answered (answers.Done reply)) h =
    h ≡ entries.Asked c op ∷ entries.Did c reply ∷ []
IsMade c (calls.Op op) (ends.Busy holder) h =
    IsUndoing c (entries.Busy c op holder) h (entries.Aborted c)
IsMade c calls.Save (ends.Answered (answers.Saved n)) h = h ≡ entries.Saved c ∷ []
IsMade c (calls.Back level) (ends.Answered (answers.Returned reached)) h =
    (reached ≡ level) × IsUndoing c (entries.Leave c (Some level)) h (entries.Returned c level)
IsMade c calls.Commit (ends.Answered (answers.Committed p)) h = h ≡ entries.Committed c p ∷ []
IsMade c calls.Abort (ends.Answered answers.Aborted) h =
    IsUndoing c (entries.Leave c None) h (entries.Aborted c)
IsMade c (calls.Help key) ends.Helped h = h ≡ []
IsMade c call outcome h = ⊥

-- If the turn is an end, the drive has added the entries that belong to this end.
abbrev pub HasMade : Drive → Turn → Type 0
HasMade drive (Ended outcome) = IsMade drive.caller drive.call outcome (made drive)
HasMade drive turn = Unit {0}

-- No entry of the list is a `Committed`.
abbrev pub CommitNothing : List Entry → Type 0
CommitNothing es = filter is_commit es ≡ []

-- A call that ends with `OutOfStep` has committed nothing.
abbrev pub IsQuiet : End → List Entry → Type 0
IsQuiet (ends.Refused OutOfStep) added = CommitNothing added
IsQuiet outcome added = Unit {0}
