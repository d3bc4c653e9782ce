-- A worker keeps to its scripts: its entries so far are first those of its finished scripts
-- (`AreAccounts`), and then those of its present script.
use Rattle.std.specs.Prelude.{◌≡◌, ℕ, ◌+◌, ◌*◌, ◌<◌, List, ◌++◌, length, Option, Some, None, slice_get}
use Rattle.txn_words.specs.declared.action.Action.{Action}
use Rattle.txn_words.specs.declared.entry.Entry.{Entry}
use Rattle.txn_drive.specs.Made.{made}
use Rattle.script_worker.specs.declared.task.Task.{Task}
use Rattle.script_worker.specs.Accounts.{Outcome, AreAccounts, every, tolds_of}
use Rattle.script_worker.specs.Attempts.{call_at}
use Rattle.script_worker.specs.Chunks.{heard_at, IsChunk}
use Rattle.script_worker.specs.Workers.{Standing}

-- The worker runs the task's script, which is one of the worker's scripts. The worker's entries are
-- first the accounts of its earlier scripts, then the entries of the calls of this script that have
-- ended, and then the entries of the present call.
pub record KeepsTask (tries workers : ℕ) (scripts : List (List Action)) (w : ℕ) (task : Task)
    (seen : List Entry) : Type 0 where
  pub outcomes : List Outcome
  pub number : task.script ≡ w + length outcomes * workers
  pub script : List Action
  pub there : slice_get scripts task.script ≡ Some script
  pub caller : task.drive.caller ≡ w
  pub call : task.drive.call ≡ call_at script task.attempt.stage
  pub earlier : List Entry
  pub chunk : List Entry
  pub entries : seen ≡ earlier ++ (chunk ++ made task.drive)
  pub told : AreAccounts w tries (tolds_of (every workers w scripts) outcomes) earlier
  pub txn : ℕ
  pub replies : List (Option ℕ)
  pub so_far : IsChunk w script (heard_at task.attempt txn replies) chunk

-- If the worker has a task, `KeepsTask` holds for its entries. If it has no task, its entries are
-- the accounts of its finished scripts.
abbrev pub KeepsAt : ℕ → ℕ → List (List Action) → ℕ → Option Task → List Entry → Type 0
KeepsAt tries workers scripts w None seen =
    (outcomes : List Outcome)
    × AreAccounts w tries (tolds_of (every workers w scripts) outcomes) seen
KeepsAt tries workers scripts w (Some task) seen = KeepsTask tries workers scripts w task seen

-- The worker's entries so far are those of its scripts. `tries` says how often a script may be
-- tried again.
pub record KeepsScripts (scripts : List (List Action)) (tries : ℕ) (worker : Standing)
    (seen : List Entry) : Type 0 where
  pub number : worker.number < worker.limits.callers
  pub at : KeepsAt tries worker.limits.callers scripts worker.number worker.task seen
