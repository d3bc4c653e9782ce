-- PROMISES a-verdict-by-any-order-is-right: IsAnswered
-- The answer to whether the history of a file is serializable, in any order.
use Rattle.std.specs.Prelude.{◌≡◌, ℕ, Bool, List, length, Option, Ok}
use Rattle.std.specs.Io.KnownBytes.{Appends}
use Rattle.txn_words.specs.declared.entry.Entry.{Entry}
use Rattle.txn_words.specs.Kinds.{is_commit}
use Rattle.txn_words.specs.Shape.{how_many, IsShaped}
use Rattle.txn_trace.specs.Legal.{running, callers_in}
use Rattle.txn_files.specs.HistoryFile.{history_of}
use Rattle.serial_check.specs.Serializable.{IsSerializableByCommits}
use Rattle.order_check.specs.declared.verdict.Verdict.{Verdict}
use Rattle.order_check.specs.Verdicts.{IsVerdictIf, IsOfCommits}
use Rattle.judge_engine.specs.declared.answer.Answer.{Answer}
use Rattle.judge_engine.specs.declared.order.Ordered.{Ordered}
use Rattle.judge_engine.specs.Answers.{answer_of}
use Rattle.judge_engine.specs.Files.{OfFile}

-- What the judge found of the history, with or without real time.
pub record IsOrdered (real_time : Bool) (h : List Entry) (ordered : Ordered) : Type 0 where
  pub verdict : IsVerdictIf real_time h ordered.verdict
  pub by_commits : IsSerializableByCommits h → IsOfCommits h ordered.verdict
  pub committed : IsShaped h → ordered.commits ≡ how_many is_commit h
  pub in_txn : IsShaped h → ordered.running ≡ length (running (callers_in h) h)

-- The answer and the text for the history file with these bytes. They are those of a verdict that
-- holds for the history (`IsVerdictIf`), with or without real time. Either the order that it names
-- is a serial order, or the history is not serializable, for the reason that it names, or the verdict
-- is undecided. If the order of the commits is a serial order, the verdict names this order. `text_of`
-- gives the text of a verdict.
pub record IsAnswered (real_time : Bool) (text_of : List Entry → Verdict → List ℕ) (bytes : List ℕ)
    (answer : Answer) (text : List ℕ) : Type 0 where
  pub stripes : ℕ
  pub history : List Entry
  pub version : ℕ
  pub verdict : Verdict
  pub file : history_of bytes ≡ Ok (stripes, history, version)
  pub holds : IsVerdictIf real_time history verdict
  pub by_commits : IsSerializableByCommits history → IsOfCommits history verdict
  pub answer_is : answer ≡ answer_of verdict
  pub text_is : text ≡ text_of history verdict

-- The text for the history file that a reader gives was written, and nothing else.
abbrev pub WritesAnswer : Bool → (List Entry → Verdict → List ℕ) → Option (List ℕ) → Answer
    → Option (List ℕ) → Option (List ℕ) → Type 0
WritesAnswer real_time text_of remaining answer old new =
    OfFile remaining (λ bytes.
    (text : List ℕ) × IsAnswered real_time text_of bytes answer text × Appends old new text)

-- The text, with some answer, for the history file with these bytes.
abbrev pub IsTextFor : Bool → (List Entry → Verdict → List ℕ) → List ℕ → List ℕ → Type 0
IsTextFor real_time text_of bytes text =
    (answer : Answer) × IsAnswered real_time text_of bytes answer text

-- The text for the history file that a reader gives.
abbrev pub IsAnswerText : Bool → (List Entry → Verdict → List ℕ) → Option (List ℕ) → List ℕ → Type 0
IsAnswerText real_time text_of remaining text =
    OfFile remaining (λ bytes. IsTextFor real_time text_of bytes text)
