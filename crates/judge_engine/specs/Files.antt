-- PROMISES entries-as-lines: Checks
-- The verdict on a history file, and the reasons why there is none.
use Rattle.std.specs.Prelude.{◌≡◌, ℕ, Bool, true, false, List, take, Option, Ok, Err, IfSome}
use Rattle.txn_words.specs.declared.entry.Entry.{Entry}
use Rattle.txn_files.specs.HistoryFile.{history_of, holder_rule}
pub use Rattle.txn_files.specs.Reading.{IsRead, max_read}
use Rattle.history_check.specs.declared.verdict.Verdict.{Verdict}
use Rattle.judge_engine.specs.declared.basis.Basis.{Basis}
use Rattle.judge_engine.specs.declared.basis.Basis.TheVariants.{Locks, Commits}
use Rattle.judge_engine.specs.declared.fault.Fault.{Fault}
use Rattle.judge_engine.specs.declared.fault.Fault.TheVariants.{Input, Line, NoMemory, Read, Write}
use Rattle.judge_engine.specs.Bases.{IsVerdictBy}
use Rattle.judge_engine.specs.Explained.{Explains}

-- The rules by which a history file is judged.
abbrev pub basis_of : Bool → ℕ → ℕ → Basis
basis_of true stripes version = Commits
basis_of false stripes version = Locks stripes (holder_rule version)

-- The verdict on the history file with these bytes: by the order of commits, or by the locks of the
-- file's stripes.
pub record IsJudgedFile (by_commits : Bool) (bytes : List ℕ) (outcome : Verdict) : Type 0 where
  pub stripes : ℕ
  pub history : List Entry
  pub version : ℕ
  pub file : history_of bytes ≡ Ok (stripes, history, version)
  pub verdict : IsVerdictBy (basis_of by_commits stripes version) history outcome

-- The verdict on the history file with these bytes, and the lines that explain the verdict.
pub record IsExplainedFile (by_commits : Bool) (bytes : List ℕ) (outcome : Verdict)
    (lines : List ℕ) : Type 0 where
  pub stripes : ℕ
  pub history : List Entry
  pub version : ℕ
  pub file : history_of bytes ≡ Ok (stripes, history, version)
  pub verdict : IsVerdictBy (basis_of by_commits stripes version) history outcome
  pub explains : Explains (basis_of by_commits stripes version) history outcome lines

-- Why there is no verdict on the file with these bytes: the file is refused, memory is refused, or
-- a read failed.
abbrev pub IsUnjudgedFile : List ℕ → Fault → Type 0
IsUnjudgedFile bytes (Input fault) = history_of bytes ≡ Err fault
IsUnjudgedFile bytes NoMemory = Unit {0}
IsUnjudgedFile bytes Read = Unit {0}
IsUnjudgedFile bytes (Line number fault) = ⊥
IsUnjudgedFile bytes Write = ⊥

-- `P` holds for the bytes that were read. Reading takes all bytes that the reader had left, but at
-- most one byte more than a file may have.
abbrev pub OfFile : Option (List ℕ) → (List ℕ → Type 0) → Type 0
OfFile remaining P = (bytes : List ℕ) × IsRead remaining bytes × P bytes

-- The verdict on the history file that a reader gives.
abbrev pub Checks : Bool → Option (List ℕ) → Verdict → Type 0
Checks by_commits remaining outcome =
    OfFile remaining (λ bytes. IsJudgedFile by_commits bytes outcome)

-- Why there is no verdict on the history file that a reader gives.
abbrev pub FailsToCheck : Option (List ℕ) → Fault → Type 0
FailsToCheck remaining (Input fault) =
    OfFile remaining (λ bytes. IsUnjudgedFile bytes (Input fault))
FailsToCheck remaining NoMemory = Unit {0}
FailsToCheck remaining Read = Unit {0}
FailsToCheck remaining (Line number fault) = ⊥
FailsToCheck remaining Write = ⊥
