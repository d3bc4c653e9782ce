-- PROMISES from-words-and-bytes-to-bytes: IsReportOf
-- The report on a run of the steps in a file.
use Rattle.std.specs.Prelude.{◌≡◌, ℕ, List, [], ◌∷◌, ◌++◌, Ok, Err, codes, decimal}
use Rattle.std.specs.List.{flat_map}
use Rattle.txn_words.specs.declared.answer.Answer.{Answer}
use Rattle.txn_words.specs.declared.step.Step.{Step}
use Rattle.txn_words.specs.Sizes.{Sizes}
use Rattle.txn_words.specs.Text.{text_of}
use Rattle.txn_words.specs.Map.{count_of}
use Rattle.txn_words.specs.Ordered.{ordered}
use Rattle.txn_trace.specs.Now.{now}
use Rattle.txn_files.specs.FileFault.{FileFault}
use Rattle.txn_files.specs.StepFile.{file_of}
use Rattle.boost_core.specs.Machine.{State, Run}

-- A text and a line feed.
abbrev pub line : List ℕ → List ℕ
line text = text ++ 10 ∷ []

-- The answers, one on each line.
abbrev pub answers_text : List Answer → List ℕ
answers_text answers = flat_map (λ answer. line (text_of answer)) answers

-- The line that gives the table's size and the number of keys.
abbrev pub size_text : ℕ → ℕ → List ℕ
size_text size count = line (codes "size " ++ (decimal size ++ (codes " count " ++ decimal count)))

-- Keys and values, one pair on each line.
abbrev pub pairs_text : List (ℕ × ℕ) → List ℕ
pairs_text pairs = flat_map (λ pair. line (decimal pair.0 ++ (codes " " ++ decimal pair.1))) pairs

-- The text of the last state of a run: the line with the table's size and the number of keys, and
-- then the pairs of the map in list order.
abbrev pub last_text : State → List ℕ
last_text last =
    size_text last.size (count_of (now last.history))
    ++ pairs_text (ordered (now last.history))

-- The report of a run: its answers, then the text of its last state.
abbrev pub report : List Answer → State → List ℕ
report answers last = answers_text answers ++ last_text last

-- `text` is the report on a run of these steps.
pub record IsReport (sizes : Sizes) (steps : List Step) (text : List ℕ) : Type 0 where
  pub answers : List Answer
  pub last : State
  pub run : Run sizes steps answers last
  pub whole : text ≡ report answers last

-- `text` is the report on a run of the steps that are read from these bytes.
abbrev pub IsReportOf : List ℕ → List ℕ → Type 0
IsReportOf bytes text =
    (sizes : Sizes) × (steps : List Step) × (file_of bytes ≡ Ok (sizes, steps))
    × IsReport sizes steps text

-- The bytes are not a step file, and reading them as one gives this fault.
abbrev pub IsNoStepFile : List ℕ → FileFault → Type 0
IsNoStepFile bytes fault = file_of bytes ≡ Err fault
