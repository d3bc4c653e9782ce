-- PROMISES what-leads-to-a-bad-entry: WritesExplanation
-- PROMISES what-is-wrong-with-a-refused-file: LeavesExplanation
-- What `why` writes for a history file.
use Rattle.std.specs.Prelude.{◌≡◌, ◌⊎◌, ℕ, Bool, List, [], ◌∷◌, ◌++◌, Option, Some, Err}
use Rattle.std.specs.Io.KnownBytes.{Appends, Keeps}
use Rattle.txn_files.specs.HistoryFile.{history_of}
use Rattle.history_check.specs.declared.verdict.Verdict.{Verdict}
use Rattle.history_check.specs.Verdicts.{says_legal, verdict_line}
use Rattle.bad_file.specs.declared.flaw.Flaw.{Flaw}
use Rattle.bad_file.specs.Flaws.{TellsFlaw}
use Rattle.bad_file.specs.Texts.{flaw_text}
use Rattle.piece_files.specs.declared.file_fault.FileFault.{FileFault}
use Rattle.judge_engine.specs.declared.fault.Fault.{Fault}
use Rattle.judge_engine.specs.declared.fault.Fault.TheVariants.{Input, Line, NoMemory, Read, Write}
use Rattle.judge_engine.specs.Files.{IsExplainedFile, OfFile}
use Rattle.txn_files.specs.Output.{AppendsPart}

-- The text is the line of the verdict on the history file with these bytes, and the lines that
-- explain the verdict. `legal` is true exactly if the verdict says legal.
abbrev pub IsExplanation : Bool → List ℕ → Bool → List ℕ → Type 0
IsExplanation by_commits bytes legal text =
    (outcome : Verdict) × (lines : List ℕ) × IsExplainedFile by_commits bytes outcome lines
    × (legal ≡ says_legal outcome) × (text ≡ verdict_line outcome ++ lines)

-- The text is an explanation of the history file with these bytes.
abbrev pub IsExplained : Bool → List ℕ → List ℕ → Type 0
IsExplained by_commits bytes text = (legal : Bool) × IsExplanation by_commits bytes legal text

-- The text is the line of the flaw of the history file with these bytes.
abbrev pub IsFlawLine : List ℕ → List ℕ → Type 0
IsFlawLine bytes text =
    (flaw : Flaw) × TellsFlaw bytes (Some flaw) × (text ≡ flaw_text flaw ++ 10 ∷ [])

-- An explanation of the history file that a reader gives was written, and nothing else.
abbrev pub WritesExplanation : Bool → Option (List ℕ) → Bool → Option (List ℕ) → Option (List ℕ)
    → Type 0
WritesExplanation by_commits remaining legal old new =
    OfFile remaining (λ bytes.
    (text : List ℕ) × IsExplanation by_commits bytes legal text × Appends old new text)

-- The history file with these bytes is refused.
abbrev pub IsRefused : List ℕ → Type 0
IsRefused bytes = (fault : FileFault) × (history_of bytes ≡ Err fault)

-- The line of the file's flaw was written, and nothing else.
abbrev pub WritesFlaw : List ℕ → Option (List ℕ) → Option (List ℕ) → Type 0
WritesFlaw bytes old new = (text : List ℕ) × IsFlawLine bytes text × Appends old new text

-- The output if the line of the file's flaw was not written as a whole.
abbrev pub FailsToTell : List ℕ → Option (List ℕ) → Option (List ℕ) → Fault → Type 0
FailsToTell bytes old new NoMemory = Keeps old new
FailsToTell bytes old new Write = (text : List ℕ) × IsFlawLine bytes text × AppendsPart old new text
FailsToTell bytes old new Read = ⊥
FailsToTell bytes old new (Input fault) = ⊥
FailsToTell bytes old new (Line number fault) = ⊥

-- The output after a fault, given the bytes of the history file. If the file is refused, the line of
-- its flaw was written. If a write failed, the output grew by a proper prefix of that line. After
-- any other fault nothing was written.
abbrev pub Tells : List ℕ → Option (List ℕ) → Option (List ℕ) → Fault → Type 0
Tells bytes old new (Input fault) = (history_of bytes ≡ Err fault) × WritesFlaw bytes old new
Tells bytes old new NoMemory = Keeps old new
Tells bytes old new Read = Keeps old new
Tells bytes old new Write = (text : List ℕ) × IsFlawLine bytes text × AppendsPart old new text
Tells bytes old new (Line number fault) = ⊥

-- A proper prefix of the text for the file with these bytes was written. `IsText` holds for the
-- bytes and the text, or the text is the line of the file's flaw.
abbrev pub LeavesPart : (List ℕ → List ℕ → Type 0) → List ℕ → Option (List ℕ) → Option (List ℕ)
    → Type 0
LeavesPart IsText bytes old new =
    (text : List ℕ) × (IsText bytes text ⊎ IsFlawLine bytes text) × AppendsPart old new text

-- The output after `why` has failed. If the file is refused, the line of its flaw was written. If a
-- write failed, the output grew by a proper prefix of what would have been written. After any other
-- fault nothing was written. `IsText` holds for the bytes of the file and the text that was to be
-- written.
abbrev pub LeavesExplanation : (List ℕ → List ℕ → Type 0) → Option (List ℕ) → Option (List ℕ)
    → Option (List ℕ) → Fault → Type 0
LeavesExplanation IsText remaining old new (Input fault) =
    OfFile remaining (λ bytes. (history_of bytes ≡ Err fault) × WritesFlaw bytes old new)
LeavesExplanation IsText remaining old new NoMemory = Keeps old new
LeavesExplanation IsText remaining old new Read = Keeps old new
LeavesExplanation IsText remaining old new Write =
    OfFile remaining (λ bytes. LeavesPart IsText bytes old new)
LeavesExplanation IsText remaining old new (Line number fault) = ⊥
