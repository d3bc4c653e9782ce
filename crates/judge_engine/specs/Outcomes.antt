-- PROMISES what-became-of-each-script: IsOutcomesText
-- Which outcome each script of a script file has in the history of a history file.
use Rattle.std.specs.Prelude.{◌≡◌, ◌↔◌, ℕ, ◌%◌, Bool, true, false, List, [], ◌∷◌, ◌++◌, length, Option, Some, Ok, Err, IsOk, slice_get, codes, decimal}
use Prim.Native.Nat.{suc}
use Rattle.std.specs.List.{filter}
use Rattle.std.specs.Io.KnownBytes.{Appends, Keeps}
use Rattle.txn_words.specs.declared.action.Action.{Action}
use Rattle.txn_words.specs.declared.action.Action.TheVariants.{Abort}
use Rattle.txn_words.specs.declared.entry.Entry.{Entry}
use Rattle.txn_words.specs.Work.{Work}
use Rattle.txn_files.specs.HistoryFile.{history_of}
use Rattle.txn_files.specs.ScriptFile.{scripts_of}
use Rattle.script_worker.specs.declared.outcome.Outcome.{Outcome}
use Rattle.script_worker.specs.declared.outcome.Outcome.TheVariants as outcomes
use Rattle.script_worker.specs.Outcomes.{AreOutcomes}
use Rattle.script_worker.specs.Texts.{outcome_words}
use Rattle.judge_engine.specs.declared.outcomes.Kind.{Kind}
use Rattle.judge_engine.specs.declared.outcomes.Kind.TheVariants as kinds
use Rattle.judge_engine.specs.declared.outcomes.OutcomesFault.{OutcomesFault}
use Rattle.judge_engine.specs.declared.outcomes.OutcomesFault.TheVariants.{Scripts, History, ScriptsRead, HistoryRead, NoMemory, Write}
use Rattle.piece_files.specs.Faults.{words_of}
use Rattle.piece_files.specs.declared.file_fault.FileFault.{FileFault}
use Rattle.piece_files.specs.declared.file_fault.FileFault.TheVariants as files
use Rattle.judge_engine.specs.Files.{OfFile}
use Rattle.txn_files.specs.Output.{AppendsPart}

-- The exit status after this fault.
abbrev pub outcomes_status : OutcomesFault → ℕ
outcomes_status (Scripts fault) = 3
outcomes_status (History fault) = 3
outcomes_status ScriptsRead = 4
outcomes_status HistoryRead = 4
outcomes_status NoMemory = 4
outcomes_status Write = 4

-- The message of a fault.
abbrev pub outcomes_message : OutcomesFault → List ℕ
outcomes_message (Scripts fault) = codes "scripts refused " ++ words_of fault
outcomes_message (History fault) = codes "history refused " ++ words_of fault
outcomes_message ScriptsRead = codes "scripts read failed"
outcomes_message HistoryRead = codes "history read failed"
outcomes_message NoMemory = codes "no memory"
outcomes_message Write = codes "write failed"

-- `NoMemory` if memory was refused, else the fault of the script file.
abbrev pub of_scripts : FileFault → OutcomesFault
of_scripts files.NoMemory = NoMemory
of_scripts files.NotJson = Scripts files.NotJson
of_scripts files.Member = Scripts files.Member
of_scripts (files.Piece part i) = Scripts (files.Piece part i)
of_scripts files.Limit = Scripts files.Limit

-- `NoMemory` if memory was refused, else the fault of the history file.
abbrev pub of_history : FileFault → OutcomesFault
of_history files.NoMemory = NoMemory
of_history files.NotJson = History files.NotJson
of_history files.Member = History files.Member
of_history (files.Piece part i) = History (files.Piece part i)
of_history files.Limit = History files.Limit

-- Whether the outcome is of this kind.
abbrev pub is_kind : Kind → Outcome → Bool
is_kind kinds.Committed (outcomes.Committed place entry) = true
is_kind kinds.Aborted (outcomes.Aborted entry) = true
is_kind kinds.GivenUp outcomes.GivenUp = true
is_kind kind outcome = false

-- How many of the outcomes are of this kind.
abbrev pub how_many : Kind → List Outcome → ℕ
how_many kind os = length (filter (is_kind kind) os)

-- The line of a script's outcome.
abbrev pub outcome_line : ℕ → ℕ → Outcome → List ℕ
outcome_line workers n outcome =
    codes "script " ++ (decimal n ++ (codes " worker " ++ (decimal (n % workers)
    ++ (codes " " ++ (outcome_words outcome ++ 10 ∷ [])))))

-- The lines of these outcomes. The first outcome is that of the script with this number.
abbrev pub outcome_lines : ℕ → ℕ → List Outcome → List ℕ
outcome_lines workers n [] = []
outcome_lines workers n (outcome ∷ more) =
    outcome_line workers n outcome ++ outcome_lines workers (suc n) more

-- The last line: how many outcomes are of each kind.
abbrev pub counts_line : List Outcome → List ℕ
counts_line os =
    decimal (how_many kinds.Committed os) ++ (codes " committed "
    ++ (decimal (how_many kinds.Aborted os) ++ (codes " aborted "
    ++ (decimal (how_many kinds.GivenUp os) ++ (codes " given up" ++ 10 ∷ [])))))

-- The whole text: the lines of all outcomes, and the line of the counts.
abbrev pub outcomes_text : ℕ → List Outcome → List ℕ
outcomes_text workers os = outcome_lines workers 0 os ++ counts_line os

-- Whether a script has an abort.
abbrev pub has_abort : List Action → Bool
has_abort [] = false
has_abort (Abort ∷ script) = true
has_abort (action ∷ script) = has_abort script

-- Each script that is given up has an abort.
abbrev pub IsWell : List (List Action) → List Outcome → Type 0
IsWell scripts os = (n : ℕ) (script : List Action) → slice_get scripts n ≡ Some script
    → slice_get os n ≡ Some outcomes.GivenUp → has_abort script ≡ true

-- The text says which outcome each script of the script file has in the history of the history
-- file. `well` is true exactly if each script that is given up has an abort.
pub record IsOutcomesText (scripts history text : List ℕ) (well : Bool) : Type 0 where
  pub work : Work
  pub stripes : ℕ
  pub entries : List Entry
  pub version : ℕ
  pub found : List Outcome
  pub scripts_are : scripts_of scripts ≡ Ok work
  pub history_is : history_of history ≡ Ok (stripes, entries, version)
  pub outcomes : AreOutcomes work.sizes.callers work.scripts entries found
  pub text_is : text ≡ outcomes_text work.sizes.callers found
  pub well_is : (well ≡ true) ↔ IsWell work.scripts found

-- The text and `well` are a report on two files, each read from its own reader.
abbrev pub TellsOutcomes : Option (List ℕ) → Option (List ℕ) → List ℕ → Bool → Type 0
TellsOutcomes scripts history text well =
    OfFile scripts (λ left. OfFile history (λ right. IsOutcomesText left right text well))

-- The entries are those of the history file with these bytes.
abbrev pub HistoryOf : List Entry → List ℕ → Type 0
HistoryOf entries bytes =
    (stripes : ℕ) × (version : ℕ) × (history_of bytes ≡ Ok (stripes, entries, version))

-- Why no scripts were read: the script file is refused, a read failed, or memory is refused.
abbrev pub FailsForScripts : Option (List ℕ) → OutcomesFault → Type 0
FailsForScripts left (Scripts fault) = OfFile left (λ bytes. scripts_of bytes ≡ Err fault)
FailsForScripts left ScriptsRead = Unit {0}
FailsForScripts left NoMemory = Unit {0}
FailsForScripts left fault = ⊥

-- Why no history was read: the history file is refused, a read failed, or memory is refused.
abbrev pub FailsForHistory : Option (List ℕ) → OutcomesFault → Type 0
FailsForHistory left (History fault) = OfFile left (λ bytes. history_of bytes ≡ Err fault)
FailsForHistory left HistoryRead = Unit {0}
FailsForHistory left NoMemory = Unit {0}
FailsForHistory left fault = ⊥

-- The text of a report on the two files was written, and nothing else.
abbrev pub WritesOutcomes : Option (List ℕ) → Option (List ℕ) → Option (List ℕ)
    → Option (List ℕ) → Bool → Type 0
WritesOutcomes scripts history old new well =
    (text : List ℕ) × TellsOutcomes scripts history text well × Appends old new text

-- The output after a fault. If a write failed, the output grew by a proper prefix of a report on the
-- two files. After any other fault nothing was written. If a file was refused, the fault is the one
-- that `scripts_of` or `history_of` gives. The history file is refused only if the script file is
-- accepted.
abbrev pub LeavesOutcomes : Option (List ℕ) → Option (List ℕ) → Option (List ℕ)
    → Option (List ℕ) → OutcomesFault → Type 0
LeavesOutcomes scripts history old new (Scripts fault) =
    Keeps old new × FailsForScripts scripts (Scripts fault)
LeavesOutcomes scripts history old new (History fault) =
    Keeps old new × FailsForHistory history (History fault)
    × OfFile scripts (λ bytes. IsOk (scripts_of bytes))
LeavesOutcomes scripts history old new ScriptsRead = Keeps old new
LeavesOutcomes scripts history old new HistoryRead = Keeps old new
LeavesOutcomes scripts history old new NoMemory = Keeps old new
LeavesOutcomes scripts history old new Write =
    (text : List ℕ) × (well : Bool) × TellsOutcomes scripts history text well
    × AppendsPart old new text
