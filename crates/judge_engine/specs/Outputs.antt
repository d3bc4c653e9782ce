-- The output for a verdict.
use Rattle.std.specs.Prelude.{◌≡◌, ℕ, Bool, List, Option}
use Rattle.std.specs.Io.KnownBytes.{Appends, Keeps}
use Rattle.history_check.specs.declared.verdict.Verdict.{Verdict}
use Rattle.history_check.specs.Verdicts.{says_legal, verdict_line}
use Rattle.txn_files.specs.Output.{AppendsPart}
use Rattle.judge_engine.specs.declared.fault.Fault.{Fault}
use Rattle.judge_engine.specs.declared.fault.Fault.TheVariants.{Input, Line, NoMemory, Read, Write}

-- The output if a text was not written. If memory was refused, the output is unchanged. If a write
-- failed, the output grew by a proper prefix of the text.
abbrev pub FailsToWrite : Option (List ℕ) → Option (List ℕ) → List ℕ → Fault → Type 0
FailsToWrite old new text Write = AppendsPart old new text
FailsToWrite old new text NoMemory = Keeps old new
FailsToWrite old new text Read = ⊥
FailsToWrite old new text (Input fault) = ⊥
FailsToWrite old new text (Line number fault) = ⊥

-- The line of a verdict was written, and nothing else. `IsRight` holds for the verdict, and `legal`
-- is true exactly if the verdict says legal.
abbrev pub WritesLine : (Verdict → Type 0) → Bool → Option (List ℕ) → Option (List ℕ) → Type 0
WritesLine IsRight legal old new =
    (outcome : Verdict) × IsRight outcome × (legal ≡ says_legal outcome)
    × Appends old new (verdict_line outcome)

-- The output after a fault. If a write failed, the output grew by a proper prefix of a text for
-- which `IsRight` holds. After any other fault nothing was written. If a file or a line was
-- refused, `IsWrong` holds for the fault.
abbrev pub LeavesText : (List ℕ → Type 0) → (Fault → Type 0) → Option (List ℕ) → Option (List ℕ)
    → Fault → Type 0
LeavesText IsRight IsWrong old new Write =
    (text : List ℕ) × IsRight text × AppendsPart old new text
LeavesText IsRight IsWrong old new (Input fault) = Keeps old new × IsWrong (Input fault)
LeavesText IsRight IsWrong old new (Line number fault) = Keeps old new
    × IsWrong (Line number fault)
LeavesText IsRight IsWrong old new NoMemory = Keeps old new
LeavesText IsRight IsWrong old new Read = Keeps old new

-- The text is the line of a verdict for which `IsRight` holds.
abbrev pub IsLineOf : (Verdict → Type 0) → List ℕ → Type 0
IsLineOf IsRight text = (outcome : Verdict) × IsRight outcome × (text ≡ verdict_line outcome)

-- The output after a fault, if a line of a verdict for which `IsRight` holds was to be written.
abbrev pub LeavesOutput : (Verdict → Type 0) → (Fault → Type 0) → Option (List ℕ) → Option (List ℕ)
    → Fault → Type 0
LeavesOutput IsRight = LeavesText (IsLineOf IsRight)
