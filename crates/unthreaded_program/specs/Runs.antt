-- PROMISES from-words-and-bytes-to-bytes: Runs
-- What the program does, given its words, and how it ends.
use Rattle.std.specs.Prelude.{◌≡◌, ◌⊎◌, ℕ, Bool, true, false, List, Option, Result, Ok, Err}
use Rattle.std.specs.Io.KnownBytes.{Appends, Keeps}
use Rattle.boostmap_engine.specs.declared.fault.Fault.{Fault}
use Rattle.boostmap_engine.specs.declared.fault.Fault.TheVariants.{NoThread}
use Rattle.boostmap_engine.specs.Faults.{status_of, message_of}
use Rattle.boostmap_engine.specs.Written.{WritesTextOf, LeavesOutput}
use Rattle.boostmap_engine.specs.Report.{line, IsReportOf, IsNoStepFile}
use Rattle.boostmap_engine.specs.Mixture.{IsMixtureOf, IsNoScriptFile}
use Rattle.boostmap_engine.specs.Judgement.{IsJudgement, IsJudgementOf, IsNoHistoryFile}
use Rattle.command_line.specs.declared.words.Command.{Command}
use Rattle.command_line.specs.declared.words.Command.TheVariants.{Replay, Run, Mix, Check}
use Rattle.unthreaded_program.specs.Opening.{SpellsCommand, IsUnopened}
use Rattle.program_system.specs.declared.ending.Ending.{Ending}

-- The outcome of a run: a fault, or a boolean that says whether all is well.
abbrev pub RunResult : Type 0
RunResult = Result Bool Fault

-- What an engine does: a relation between the bytes of its file, if they are known, standard output
-- before and after, and the outcome.
abbrev pub Engine : Type 1
Engine = Option (List ℕ) → Option (List ℕ) → Option (List ℕ) → RunResult → Type 0

-- The engine of `run` in a program that starts no threads.
abbrev pub StartsNone : Engine
StartsNone bytes old new outcome = (outcome ≡ Err NoThread) × Keeps old new

-- A command ran on a file. `OfRun` is the engine for the command `run`.
abbrev pub RunsCommand : Engine → Command → Engine
RunsCommand OfRun Replay bytes old new (Ok well) =
    WritesTextOf IsReportOf bytes old new × (well ≡ true)
RunsCommand OfRun Replay bytes old new (Err fault) =
    LeavesOutput IsReportOf IsNoStepFile bytes old new fault
RunsCommand OfRun Run bytes old new outcome = OfRun bytes old new outcome
RunsCommand OfRun (Mix seed) bytes old new (Ok well) =
    WritesTextOf (IsMixtureOf seed) bytes old new × (well ≡ true)
RunsCommand OfRun (Mix seed) bytes old new (Err fault) =
    LeavesOutput (IsMixtureOf seed) IsNoScriptFile bytes old new fault
RunsCommand OfRun Check bytes old new (Ok well) = WritesTextOf (IsJudgement well) bytes old new
RunsCommand OfRun Check bytes old new (Err fault) =
    LeavesOutput IsJudgementOf IsNoHistoryFile bytes old new fault

-- No command ran, and standard output is unchanged.
abbrev pub RunsNone : Option (List (List ℕ)) → Option (List ℕ) → Option (List ℕ) → RunResult
    → Type 0
RunsNone spoken old new (Err fault) = Keeps old new × IsUnopened spoken fault
RunsNone spoken old new (Ok well) = ⊥

-- A command ran on the bytes of its file. It is the command that the words ask for.
pub record RunsOne (OfRun : Engine) (spoken : Option (List (List ℕ)))
    (bytes_of : List ℕ → Option (List ℕ)) (old new : Option (List ℕ)) (outcome : RunResult)
    : Type 0 where
  pub command : Command
  pub bytes : Option (List ℕ)
  pub opened : SpellsCommand spoken bytes_of command bytes
  pub does : RunsCommand OfRun command bytes old new outcome

-- What a run does, given its words and the files' bytes, if they are known: it runs one command, or
-- none.
abbrev pub Runs : Engine → Option (List (List ℕ)) → (List ℕ → Option (List ℕ)) → Option (List ℕ)
    → Option (List ℕ) → RunResult → Type 0
Runs OfRun spoken bytes_of old new outcome =
    RunsOne OfRun spoken bytes_of old new outcome ⊎ RunsNone spoken old new outcome

-- The exit status after a run with this outcome.
abbrev pub status_after : RunResult → ℕ
status_after (Ok true) = 0
status_after (Ok false) = 1
status_after (Err fault) = status_of fault

-- Standard error after a run. If there was a fault, and its whole line was written (`is_told`),
-- standard error has grown by this line. If there was no fault, standard error is unchanged.
abbrev pub TellsError : Option (List ℕ) → Option (List ℕ) → Bool → RunResult → Type 0
TellsError old new is_told (Ok well) = Keeps old new × (is_told ≡ true)
TellsError old new is_told (Err fault) = is_told ≡ true → Appends old new (line (message_of fault))

-- The end of a run. There is an outcome for which `HasRun` holds. The status is that of this
-- outcome. `HasTold` holds for the outcome too: it says what was written to standard error.
abbrev pub HasExited : (RunResult → Type 0) → (Bool → RunResult → Type 0) → Ending → Type 0
HasExited HasRun HasTold ending = (outcome : RunResult) × HasRun outcome
    × (ending.status ≡ status_after outcome) × HasTold ending.is_told outcome
