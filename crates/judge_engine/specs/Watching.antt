-- PROMISES entries-as-lines: Watches
-- The verdict on entries that are read as lines.
use Rattle.std.specs.Prelude.{◌≡◌, ℕ, List, Option, Some, None, IfSome}
use Rattle.txn_words.specs.declared.entry.Entry.{Entry}
use Rattle.piece_files.specs.declared.file_fault.FileFault.{FileFault}
use Rattle.history_check.specs.declared.verdict.Verdict.{Verdict}
use Rattle.history_check.specs.Verdicts.{SaysLegal}
use Rattle.txn_files.specs.EntryLines.{history_of_lines}
use Rattle.judge_engine.specs.declared.basis.Basis.{Basis}
use Rattle.judge_engine.specs.declared.fault.Fault.{Fault}
use Rattle.judge_engine.specs.declared.fault.Fault.TheVariants.{Input, Line, NoMemory, Read, Write}
use Rattle.judge_engine.specs.Bases.{IsLegalBy, IsVerdictBy}

-- The verdict on the entries that were found. If a line is refused, these are the entries before
-- the first refused line. The verdict is legal only if no line is refused.
pub record IsJudged (basis : Basis) (found : List Entry × Option (ℕ × FileFault))
    (outcome : Verdict) : Type 0 where
  pub verdict : IsVerdictBy basis found.0 outcome
  pub whole : SaysLegal outcome → found.1 ≡ None

-- The verdict on the entries in the lines of the bytes.
abbrev pub IsJudgedLines : Basis → List ℕ → Verdict → Type 0
IsJudgedLines basis bytes outcome = IsJudged basis (history_of_lines bytes) outcome

-- The first line that is refused has this number and this fault, and the entries before it are
-- legal.
pub record IsRefusedLine (basis : Basis) (found : List Entry × Option (ℕ × FileFault))
    (number : ℕ) (fault : FileFault) : Type 0 where
  pub line : found.1 ≡ Some (number, fault)
  pub legal : IsLegalBy basis found.0

-- Why there is no verdict on what was found: a line is refused, memory is refused, or a read
-- failed.
abbrev pub HasNoVerdict : Basis → List Entry × Option (ℕ × FileFault) → Fault → Type 0
HasNoVerdict basis found (Line number fault) = IsRefusedLine basis found number fault
HasNoVerdict basis found NoMemory = Unit {0}
HasNoVerdict basis found Read = Unit {0}
HasNoVerdict basis found (Input fault) = ⊥
HasNoVerdict basis found Write = ⊥

-- Why there is no verdict on the lines of these bytes.
abbrev pub IsUnjudged : Basis → List ℕ → Fault → Type 0
IsUnjudged basis bytes fault = HasNoVerdict basis (history_of_lines bytes) fault

-- At the beginning, a reader has the bytes `remaining` left. `P` holds for the whole list of these
-- bytes, even if some of them are not read later. If `remaining` is `None`, the bytes are not
-- known, and `P` holds for some list.
abbrev pub OfAll : Option (List ℕ) → (List ℕ → Type 0) → Type 0
OfAll remaining P = (bytes : List ℕ) × IfSome remaining (λ all. bytes ≡ all) × P bytes

-- The verdict on the lines that a reader gives.
abbrev pub Watches : Basis → Option (List ℕ) → Verdict → Type 0
Watches basis remaining outcome = OfAll remaining (λ bytes. IsJudgedLines basis bytes outcome)

-- Why there is no verdict on the lines that a reader gives.
abbrev pub FailsToWatch : Basis → Option (List ℕ) → Fault → Type 0
FailsToWatch basis remaining (Line number fault) =
    OfAll remaining (λ bytes. IsRefusedLine basis (history_of_lines bytes) number fault)
FailsToWatch basis remaining NoMemory = Unit {0}
FailsToWatch basis remaining Read = Unit {0}
FailsToWatch basis remaining (Input fault) = ⊥
FailsToWatch basis remaining Write = ⊥
