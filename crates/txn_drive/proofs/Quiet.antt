-- A drive adds a Committed entry only if its call ends with the answer `Committed`.
use Rattle.std.proofs.Common.{◌≡◌, ℕ, zero, suc, ◌⊎◌, List, [], ◌++◌, Option, Some, None, refl, ◌∙◌, inl, inr}
use Rattle.std.specs.List.{filter}
use Rattle.std.proofs.lemmas.List.Elements.{filter-append}
use Rattle.txn_words.specs.Kinds.{is_commit}
use Rattle.txn_words.specs.declared.answer.Answer.{Answer}
use Rattle.txn_words.specs.declared.answer.Answer.TheVariants as answers
use Rattle.txn_words.specs.declared.entry.Entry.{Entry}
use Rattle.txn_words.specs.declared.step.Step.TheVariants.{Act}
use Rattle.txn_words.specs.Entries.{entries_of}
use Rattle.txn_drive.specs.declared.call.Call.{Call}
use Rattle.txn_drive.specs.declared.call.Call.TheVariants as calls
use Rattle.txn_drive.specs.declared.drive.Drive.{Drive}
use Rattle.txn_drive.specs.declared.«end».End.{End}
use Rattle.txn_drive.specs.declared.«end».End.TheVariants as ends
use Rattle.txn_drive.specs.declared.phase.Phase.{Phase}
use Rattle.txn_drive.specs.declared.phase.Phase.TheVariants.{Seeking, Acting, First, Last, Lost}
use Rattle.txn_drive.specs.declared.phase.Work.{Work}
use Rattle.txn_drive.specs.declared.phase.Work.TheVariants.{Operation, Busy, Leaving}
use Rattle.txn_drive.specs.Drives.{turn_in, ended_by, end_of}
use Rattle.txn_drive.specs.Made.{undone_in, undone_by, opened_by, entered_by, made_by, made_in, made, CommitNothing}

pub append_quiet : (xs ys : List Entry) → CommitNothing xs → CommitNothing ys → CommitNothing (xs ++ ys)
append_quiet xs ys quiet silent = filter-append is_commit xs ys ∙ (λ i. quiet i ++ silent i)

pub undone_quiet : (c k : ℕ) → CommitNothing (undone_by c k)
undone_quiet c zero = refl
undone_quiet c (suc k) = undone_quiet c k

opened_quiet : (c : ℕ) (call : Call) (work : Work) → CommitNothing (opened_by c call work)
opened_quiet c (calls.Op op) Operation = refl
opened_quiet c (calls.Op op) (Busy x k) = refl
opened_quiet c (calls.Back level) (Leaving k) = refl
opened_quiet c calls.Abort (Leaving k) = refl
opened_quiet c call work = refl

work_quiet : (c : ℕ) (call : Call) (work : Work) → CommitNothing (made_by c call work)
work_quiet c call work = append_quiet (opened_by c call work) (undone_by c (undone_in work)) (opened_quiet c call work) (undone_quiet c (undone_in work))

act_quiet : (c : ℕ) (answer : Answer) → CommitNothing (entries_of (Act c) answer)
act_quiet c (answers.Done reply) = refl
act_quiet c answers.Undone = refl
act_quiet c (answers.Returned n) = refl
act_quiet c answers.Aborted = refl
act_quiet c answer = refl

abbrev IsQuietOr : List Entry → Option End → Type 0
IsQuietOr es outcome = CommitNothing es ⊎ ((p : ℕ) × (outcome ≡ Some (ends.Answered (answers.Committed p))))

first_quiet : (c : ℕ) (call : Call) (answer : Answer) → IsQuietOr (entered_by c call answer) (ended_by (turn_in c call (First answer)))
first_quiet c calls.Begin (answers.Began t) = inl refl
first_quiet c calls.Save (answers.Saved n) = inl refl
first_quiet c calls.Commit (answers.Committed p) = inr (p, refl)
first_quiet c call answer = inl refl

quiet_in : (c : ℕ) (call : Call) (phase : Phase) → IsQuietOr (made_in c call phase) (ended_by (turn_in c call phase))
quiet_in c call (Seeking work again) = inl (work_quiet c call work)
quiet_in c call (Acting work again) = inl (work_quiet c call work)
quiet_in c call (First answer) = first_quiet c call answer
quiet_in c call (Last work answer) = inl (append_quiet (made_by c call work) (entries_of (Act c) answer) (work_quiet c call work) (act_quiet c answer))
quiet_in c call (Lost work) = inl (work_quiet c call work)
quiet_in c call phase = inl refl

pub made_quiet : (d : Drive) → (filter is_commit (made d) ≡ []) ⊎ ((p : ℕ) × (end_of d ≡ Some (ends.Answered (answers.Committed p))))
made_quiet d = quiet_in d.caller d.call d.phase

-- A drive that has not ended has committed nothing.
pub going_quiet : (d : Drive) → end_of d ≡ None → filter is_commit (made d) ≡ []
going_quiet d going = elim (made_quiet d) [
  | inl quiet ↦ quiet
  | inr committed ↦ absurd (cc (going, committed.1))
]
