-- The entries that a caller has added since its present script began.
use Rattle.std.specs.Prelude.{◌≡◌, ℕ, Option, List, [], ◌∷◌, ◌++◌, drop}
use Rattle.txn_words.specs.declared.action.Action.{Action}
use Rattle.txn_words.specs.declared.answer.Answer.TheVariants as answers
use Rattle.txn_words.specs.declared.entry.Entry.{Entry}
use Rattle.txn_words.specs.declared.entry.Entry.TheVariants.{Began}
use Rattle.txn_words.specs.declared.refusal.Refusal.TheVariants.{OutOfStep}
use Rattle.txn_trace.specs.Plays.{without_undone, ArePlayed, IsPlayed}
use Rattle.txn_drive.specs.declared.«end».End.{End}
use Rattle.txn_drive.specs.declared.«end».End.TheVariants as ends
use Rattle.txn_drive.specs.Made.{CommitNothing}
use Rattle.script_worker.specs.declared.attempt.Stage.{Stage}
use Rattle.script_worker.specs.declared.attempt.Stage.TheVariants.{Beginning, Acting, Leaving}
use Rattle.script_worker.specs.declared.attempt.Attempt.{Attempt}
use Rattle.script_worker.specs.declared.attempt.Finish.{Finish}
use Rattle.script_worker.specs.declared.attempt.Finish.TheVariants as finishes
use Rattle.script_worker.specs.Attempts.{first_attempt}
use Rattle.script_worker.specs.Accounts as accounts
use Rattle.script_worker.specs.Accounts.{Outcome, replies_in, AreBusy}

-- An attempt, with what its answers have reported so far: the number of its transaction, and the
-- replies to its operations.
pub record Heard : Type 0 where
  pub attempt : Attempt
  pub txn : ℕ
  pub replies : List (Option ℕ)

abbrev pub heard_at : Attempt → ℕ → List (Option ℕ) → Heard
heard_at attempt txn replies = record { attempt = attempt; txn = txn; replies = replies }

abbrev pub first_heard : Heard
first_heard = heard_at first_attempt 0 []

-- The number of a script's transaction after one of its calls has ended. A call that begins a
-- transaction gives a new number. After any other call the number stays `txn`. `replies_then` gives
-- the replies after the call.
abbrev pub txn_then : ℕ → End → ℕ
txn_then txn (ends.Answered (answers.Began t)) = t
txn_then txn outcome = txn

abbrev pub replies_then : List (Option ℕ) → End → List (Option ℕ)
replies_then replies (ends.Answered (answers.Began t)) = []
replies_then replies (ends.Answered (answers.Done reply)) = replies ++ reply ∷ []
replies_then replies outcome = replies

-- What is known about a script (`Heard`) after a call of it has ended with `outcome`. `next` is the
-- same attempt at its next stage, or a new attempt.
abbrev pub heard_then : Heard → End → Attempt → Heard
heard_then heard outcome next =
    heard_at next (txn_then heard.txn outcome) (replies_then heard.replies outcome)

-- The outcome of a script, made from its finish, the end of its last call, and what was known
-- before this end.
abbrev pub outcome_by : Finish → End → Heard → Outcome
outcome_by finishes.Committed (ends.Answered (answers.Committed place)) heard =
    accounts.Committed heard.txn place heard.replies
outcome_by finishes.Committed outcome heard = accounts.Refused OutOfStep
outcome_by finishes.Aborted outcome heard = accounts.Aborted
outcome_by finishes.Busy outcome heard = accounts.Busy
outcome_by (finishes.Refused refusal) outcome heard = accounts.Refused refusal

-- The entries that a transaction has added so far. The transaction has these replies, and has
-- played all of the script except the actions `left`.
pub record IsFront (c : ℕ) (script left : List Action) (txn : ℕ) (replies : List (Option ℕ))
    (es : List Entry) : Type 0 where
  pub inner : List Entry
  pub whole : es ≡ Began c txn ∷ inner
  pub quiet : CommitNothing es
  pub replied : replies_in es ≡ replies
  pub goes : (rest : List Entry) → ArePlayed left rest → IsPlayed script (without_undone es ++ rest)

-- The condition that the entries of the present attempt meet while the attempt is at this stage.
abbrev pub IsAtStage : ℕ → List Action → Heard → List Entry → Stage → Type 0
IsAtStage c script heard part Beginning = part ≡ []
IsAtStage c script heard part (Acting i) =
    IsFront c script (drop i script) heard.txn heard.replies part
IsAtStage c script heard part (Leaving refusal) = CommitNothing part

-- The entries since the script began: first those of the earlier attempts, which each found a
-- stripe held, and then those of the present attempt.
pub record IsChunk (c : ℕ) (script : List Action) (heard : Heard) (chunk : List Entry) : Type 0
  where
    pub before : List Entry
    pub part : List Entry
    pub whole : chunk ≡ before ++ part
    pub busy : AreBusy heard.attempt.again before
    pub at : IsAtStage c script heard part heard.attempt.stage
