-- PROMISES from-words-and-bytes-to-bytes: IsJudgementOf
-- The line that gives the verdict on the history in a file.
use Rattle.std.specs.Prelude.{◌≡◌, ℕ, Bool, List, Ok, Err}
use Rattle.txn_words.specs.declared.entry.Entry.{Entry}
use Rattle.txn_files.specs.FileFault.{FileFault}
use Rattle.txn_files.specs.HistoryFile.{history_of, holder_rule}
use Rattle.history_check.specs.declared.verdict.Verdict.{Verdict}
use Rattle.history_check.specs.Verdicts.{IsVerdictOn, says_legal, verdict_line}

-- `outcome` is the verdict on the history that is read from these bytes. The verdict says legal
-- exactly if this history is legal.
pub record IsJudged (bytes : List ℕ) (outcome : Verdict) : Type 0 where
  pub stripes : ℕ
  pub history : List Entry
  pub version : ℕ
  pub file : history_of bytes ≡ Ok (stripes, history, version)
  pub verdict : IsVerdictOn (holder_rule version) stripes history outcome

-- `text` is the line that gives the verdict on the history. The history is read from these bytes.
-- `legal` says whether the verdict is legal.
abbrev pub IsJudgement : Bool → List ℕ → List ℕ → Type 0
IsJudgement legal bytes text =
    (outcome : Verdict) × IsJudged bytes outcome × (legal ≡ says_legal outcome)
    × (text ≡ verdict_line outcome)

-- `text` is the line that gives the verdict on the history. The history is read from these bytes.
abbrev pub IsJudgementOf : List ℕ → List ℕ → Type 0
IsJudgementOf bytes text = (legal : Bool) × IsJudgement legal bytes text

-- The bytes are not a history file, and reading them as one gives this fault.
abbrev pub IsNoHistoryFile : List ℕ → FileFault → Type 0
IsNoHistoryFile bytes fault = history_of bytes ≡ Err fault
