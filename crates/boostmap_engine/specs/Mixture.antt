-- PROMISES scripts-that-take-turns: IsMixtureOf
-- The history that results if workers run the scripts of a file and take turns on one core.
use Rattle.std.specs.Prelude.{◌≡◌, ℕ, ◌<◌, List, Ok, Err}
use Rattle.std.specs.List.{All}
use Rattle.txn_words.specs.declared.holder.Holder.TheVariants.{Now}
use Rattle.txn_words.specs.Kinds.{caller_of}
use Rattle.txn_trace.specs.Legal.{IsLegal}
use Rattle.txn_trace.specs.Plays.{PlayScripts}
use Rattle.txn_files.specs.FileFault.{FileFault}
use Rattle.txn_files.specs.HistoryText.{text_of_history}
use Rattle.txn_files.specs.ScriptFile.{scripts_of}
use Rattle.txn_words.specs.Work.{Work}
use Rattle.boost_core.specs.State.{State}
use Rattle.boostmap_engine.specs.Crews.{IsMixed}
use Rattle.boostmap_engine.specs.Report.{line}

-- There is a core on which the workers took turns in the order that this seed gives. The core's
-- history is legal and has only entries of these workers. Each worker's committed transactions play
-- its scripts, and the numbers of these scripts rise. `text` is the line of the history (its text
-- and a line feed), with the version of the script file.
pub record IsMixture (work : Work) (seed : ℕ) (text : List ℕ) : Type 0 where
  pub core : State
  pub mixed : IsMixed work seed core
  pub legal : IsLegal Now work.sizes.stripes core.history
  pub callers : All (λ e. caller_of e < work.sizes.callers) core.history
  pub plays : PlayScripts work.sizes.callers work.scripts core.history
  pub whole : text ≡ line (text_of_history work.version work.sizes.stripes core.history)

-- `text` is a mixture of the scripts that are read from these bytes.
abbrev pub IsMixtureOf : ℕ → List ℕ → List ℕ → Type 0
IsMixtureOf seed bytes text =
    (work : Work) × (scripts_of bytes ≡ Ok work) × IsMixture work seed text

-- The bytes are not a script file, and reading them as one gives this fault.
abbrev pub IsNoScriptFile : List ℕ → FileFault → Type 0
IsNoScriptFile bytes fault = scripts_of bytes ≡ Err fault
