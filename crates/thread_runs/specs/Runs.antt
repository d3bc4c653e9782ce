-- PROMISES scripts-on-threads: HasRunScripts, HasReported
-- The entries that a worker's run of a script adds, and the result of a run of all scripts.
use Rattle.std.specs.Prelude.{◌≡◌, ◌<◌, ◌⊎◌, ℕ, Bool, Option, Some, None, true, false, List, ◌++◌, length, map, slice_get, is_some}
use Rattle.std.specs.List.{All, AllByRecursion}
use Rattle.txn_words.specs.declared.holder.Holder.TheVariants.{Begun}
use Rattle.txn_words.specs.declared.action.Action.{Action}
use Rattle.txn_words.specs.declared.answer.Answer.TheVariants as answers
use Rattle.txn_words.specs.declared.entry.Entry.{Entry}
use Rattle.txn_words.specs.declared.refusal.Refusal.{Refusal}
use Rattle.txn_words.specs.declared.refusal.Refusal.TheVariants.{NoMemory, NoThread, OutOfStep}
use Rattle.txn_words.specs.declared.stance.Phase.{Phase}
use Rattle.txn_words.specs.declared.stance.Phase.TheVariants.{Closed, Opened}
use Rattle.txn_words.specs.Kinds.{caller_of}
use Rattle.txn_trace.specs.Legal.{IsLegal}
use Rattle.txn_trace.specs.Plays.{PlayScripts}
use Rattle.txn_words.specs.Sizes.{Sizes}
use Rattle.txn_words.specs.Shape.{Stance, stance_after}
use Rattle.txn_drive.specs.declared.call.Call.{Call}
use Rattle.txn_drive.specs.declared.call.Call.TheVariants as calls
use Rattle.txn_drive.specs.declared.«end».End.{End}
use Rattle.txn_drive.specs.declared.«end».End.TheVariants as ends
use Rattle.txn_drive.specs.Made.{IsMade, IsQuiet}
use Rattle.script_worker.specs.declared.attempt.Stage.{Stage}
use Rattle.script_worker.specs.declared.attempt.Stage.TheVariants.{Beginning}
use Rattle.locked_map.specs.Calls.{Ended}
use Rattle.locked_map.specs.Suits.{may_refuse}
use Rattle.locked_map.specs.Tokens.{Token}
use Rattle.script_worker.specs.Chunks.{Heard, heard_at}
use Rattle.script_worker.specs.Accounts as accounts
pub use Rattle.script_worker.specs.Accounts.{Outcome}
use Rattle.script_worker.specs.Accounts.{IsAccount, AreAccounts, AreAllTrue, every, tolds_of}
use Rattle.thread_runs.specs.Possible.{MayCome}
use Rattle.thread_runs.specs.declared.outcome.Outcome as codes
use Rattle.thread_runs.specs.declared.outcome.Outcome.TheVariants as outcomes
use Rattle.thread_runs.specs.declared.ran.Ran.{Ran}
use Rattle.thread_runs.specs.declared.run_script.Heard as kept
use Rattle.thread_runs.specs.declared.worker.WorkerReport.{WorkerReport}

-- A statement that is true for each element of a list and its position.
abbrev pub Each : {X : Type 0} → (ℕ → X → Type 0) → List X → Type 0
Each {X} P xs = (i : ℕ) (x : X) → slice_get xs i ≡ Some x → P i x

-- The phase of a caller's stance at a stage of an attempt.
abbrev pub phase_at : Stage → Phase
phase_at Beginning = Closed
phase_at stage = Opened

-- The stance exists and has this phase.
abbrev pub HasPhase : Phase → Option Stance → Type 0
HasPhase phase stance = (s : Stance) × (stance ≡ Some s) × (s.phase ≡ phase)

-- A caller's token is broken, or its stance has this phase.
abbrev pub IsIn : Phase → Bool → List Entry → Type 0
IsIn phase broken seen = (broken ≡ true) ⊎ HasPhase phase (stance_after seen)

-- Either the call ended with `outcome`, or memory for its reply was refused and the call was not
-- made. In the second case `outcome` is the refusal `NoMemory`, and the token is unchanged.
abbrev pub HasEnded : {S : Type 0} → Token S → Call → End → Token S → Type 0
HasEnded {S} k call outcome l =
    ((words : S → List ℕ) × Ended words k call outcome l)
    ⊎ ((outcome ≡ ends.Refused NoMemory) × (may_refuse call NoMemory ≡ true) × (l ≡ k))

-- A call has added the entries that belong to its end (`IsMade`). If the end is `OutOfStep`, and
-- the rule of shape allows all entries that the caller has seen, the call has committed nothing.
pub record Adds (c : ℕ) (call : Call) (outcome : End) (seen seen' : List Entry) : Type 0 where
  pub added : List Entry
  pub entries : seen' ≡ seen ++ added
  pub made : IsMade c call outcome added
  pub quiet : is_some (stance_after seen') ≡ true → IsQuiet outcome added

-- `k` is a caller's token after a call that ended with `outcome`, and `l` is the token after the
-- call for help that may follow. If the flag is true, `l` has seen the same entries as `k`, and is
-- broken exactly if `k` is broken. If the flag is false, the call's reply was None, and the call
-- for help ended with `OutOfStep`.
abbrev pub IsAfterHelp : {S : Type 0} → Token S → End → Bool → Token S → Type 0
IsAfterHelp k outcome true l = (l.seen ≡ k.seen) × (l.broken ≡ k.broken)
IsAfterHelp {S} k outcome false l =
    (outcome ≡ ends.Answered (answers.Done None)) × (key : ℕ) × (words : S → List ℕ)
    × Ended words k (calls.Help key) (ends.Refused OutOfStep) l

-- `HasRoomFor`: if a call has a reply, there is room for it. `HasRoomAt`: if the end of a call has
-- a reply, there is room for it.
abbrev pub HasRoomFor : Call → ℕ → Type 0
HasRoomFor (calls.Op op) room = 0 < room
HasRoomFor call room = Unit {0}

abbrev pub HasRoomAt : End → ℕ → Type 0
HasRoomAt (ends.Answered (answers.Done reply)) room = 0 < room
HasRoomAt outcome room = Unit {0}

-- Converts the `Heard` of the code to the `Heard` of the definitions.
abbrev pub heard_of : kept.Heard → Heard
heard_of heard = heard_at heard.attempt heard.txn heard.replies.items

-- Converts the `Outcome` of the code to the `Outcome` of accounts.
abbrev pub outcome_told : codes.Outcome → Outcome
outcome_told (outcomes.Committed txn place replies) = accounts.Committed txn place replies.items
outcome_told outcomes.Aborted = accounts.Aborted
outcome_told outcomes.Busy = accounts.Busy
outcome_told (outcomes.Refused refusal) = accounts.Refused refusal

-- A script was run to an outcome. If the rule of shape allows all entries that the caller has seen,
-- the entries that the script added are the account of this outcome (`IsAccount`).
abbrev pub HasRunTo : ℕ → ℕ → List Action → Outcome → List Entry → List Entry → Type 0
HasRunTo c tries script outcome base seen =
    (chunk : List Entry) × (seen ≡ base ++ chunk)
    × (is_some (stance_after seen) ≡ true → IsAccount c tries script outcome chunk)

-- If the rule of shape allows all entries that a caller has seen, these entries are the accounts of
-- the caller's scripts so far (`AreAccounts`).
abbrev pub AreToldIn : ℕ → ℕ → List (List Action) → List Outcome → List Entry → Type 0
AreToldIn c tries scripts outcomes seen =
    is_some (stance_after seen) ≡ true → AreAccounts c tries (tolds_of scripts outcomes) seen

-- Each script has an outcome that its actions allow.
abbrev pub MayAllCome : Bool → List (List Action) → List Outcome → Type 0
MayAllCome half scripts outcomes =
    AllByRecursion (λ told. MayCome half told.script told.outcome) (tolds_of scripts outcomes)

-- A worker has run each of its scripts.
pub record HasRunAll (half : Bool) (workers tries c : ℕ) (scripts : List (List Action))
    (outcomes : List Outcome) (seen : List Entry) : Type 0 where
  pub told : AreToldIn c tries (every workers c scripts) outcomes seen
  pub may : MayAllCome half (every workers c scripts) outcomes
  pub all : length outcomes ≡ length (every workers c scripts)

-- The report is by the worker with the number `c`, which has run each of its scripts.
pub record HasReported {L : Type 0} (half : Bool) (workers tries : ℕ)
    (scripts : List (List Action)) (c : ℕ) (report : WorkerReport L) : Type 0 where
  pub number_is : report.caller.number ≡ c
  pub ran :
      HasRunAll half workers tries c scripts
      (map outcome_told report.outcomes.items) report.caller.seen

-- A run of scripts on a map with these limits. Its history is legal and has only entries of these
-- workers. There is one outcome for each script, and the script allows it. The outcomes agree with
-- the history (`AreAllTrue`). Each worker's committed transactions play its scripts, with rising
-- numbers.
pub record HasRunScripts (limits : Sizes) (workers tries : ℕ) (scripts : List (List Action))
    (outcomes : List Outcome) (trace : List Entry) : Type 0 where
  pub legal : IsLegal Begun limits.stripes trace
  pub callers : All (λ e. caller_of e < workers) trace
  pub one_each : length outcomes ≡ length scripts
  pub true_of : AreAllTrue workers tries scripts outcomes trace
  pub plays : PlayScripts workers scripts trace
  pub allowed : (i : ℕ) (script : List Action) (outcome : Outcome)
      → slice_get scripts i ≡ Some script → slice_get outcomes i ≡ Some outcome
      → MayCome limits.half script outcome

-- The outcomes and the history of the result are those of a run (`HasRunScripts`).
abbrev pub IsRunOf : Sizes → ℕ → ℕ → List (List Action) → Ran → Type 0
IsRunOf limits workers tries scripts ran =
    HasRunScripts limits workers tries scripts (map outcome_told ran.outcomes.items) ran.trace.items

-- The reason why a run has no result: memory was refused, a thread was not started, or the history
-- is not what the workers saw.
abbrev pub IsRunRefusal : Refusal → Type 0
IsRunRefusal NoMemory = Unit {0}
IsRunRefusal NoThread = Unit {0}
IsRunRefusal OutOfStep = Unit {0}
IsRunRefusal refusal = ⊥
