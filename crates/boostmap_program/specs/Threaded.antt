-- PROMISES scripts-on-threads: IsThreadedOf
-- PROMISES from-words-and-bytes-to-bytes: RunsThreads
-- The history of a script file whose workers run in threads.
use Rattle.std.specs.Prelude.{◌≡◌, ℕ, true, List, Option, Ok, Err}
use Rattle.std.specs.Io.KnownBytes.{Keeps}
use Rattle.txn_words.specs.declared.entry.Entry.{Entry}
use Rattle.txn_words.specs.declared.refusal.Refusal.{Refusal}
use Rattle.txn_words.specs.declared.refusal.Refusal.TheVariants as refusals
use Rattle.txn_words.specs.Work.{Work}
use Rattle.txn_files.specs.HistoryText.{text_of_history}
use Rattle.txn_files.specs.ScriptFile.{scripts_of}
use Rattle.thread_runs.specs.Runs.{HasRunScripts, Outcome}
use Rattle.boostmap_engine.specs.declared.fault.Fault.{Fault}
use Rattle.boostmap_engine.specs.declared.fault.Fault.TheVariants as faults
use Rattle.boostmap_engine.specs.Mixture.{IsNoScriptFile}
use Rattle.boostmap_engine.specs.Report.{line}
use Rattle.boostmap_engine.specs.Written.{HasNone, LeavesOutput, WritesTextOf}
use Rattle.unthreaded_program.specs.Runs.{Engine}

-- The scripts were run in threads. The run has the outcomes `outcomes` and the history `trace`. The
-- text is the line of this history, with version 3.
pub record IsThreaded (work : Work) (text : List ℕ) : Type 0 where
  pub outcomes : List Outcome
  pub trace : List Entry
  pub run : HasRunScripts work.sizes work.sizes.callers work.tries work.scripts outcomes trace
  pub whole : text ≡ line (text_of_history 3 work.sizes.stripes trace)

-- The bytes are a script file. Its scripts were run in threads, and the text is the line of the
-- history of this run.
abbrev pub IsThreadedOf : List ℕ → List ℕ → Type 0
IsThreadedOf bytes text = (work : Work) × (scripts_of bytes ≡ Ok work) × IsThreaded work text

-- The fault with which a run in threads ends if it gives no text for these bytes. Either a thread
-- was not started, or the history is not what the workers saw, or the fault is one that a mixed run
-- can have too.
abbrev pub HasNoneThreaded : List ℕ → Fault → Type 0
HasNoneThreaded bytes faults.NoThread = Unit {0}
HasNoneThreaded bytes faults.OutOfStep = Unit {0}
HasNoneThreaded bytes fault = HasNone IsNoScriptFile bytes fault

-- The output after a fault. If a thread was not started, or if the history is not what the workers
-- saw, nothing was written. After any other fault the output is as `LeavesOutput` says.
abbrev pub LeavesThreaded : Option (List ℕ) → Option (List ℕ) → Option (List ℕ) → Fault → Type 0
LeavesThreaded remaining old new faults.NoThread = Keeps old new
LeavesThreaded remaining old new faults.OutOfStep = Keeps old new
LeavesThreaded remaining old new fault =
    LeavesOutput IsThreadedOf IsNoScriptFile remaining old new fault

-- The engine of `run` in threads.
abbrev pub RunsThreads : Engine
RunsThreads bytes old new (Ok well) = WritesTextOf IsThreadedOf bytes old new × (well ≡ true)
RunsThreads bytes old new (Err fault) = LeavesThreaded bytes old new fault

-- The fault that is reported if a run in threads is refused as a whole.
abbrev pub of_run : Refusal → Fault
of_run refusals.NoMemory = faults.NoMemory
of_run refusals.NoThread = faults.NoThread
of_run refusal = faults.OutOfStep
