-- PROMISES entries-as-lines: Runs
-- What the program does for its words, and how it ends.
use Rattle.std.specs.Prelude.{◌≡◌, ◌⊎◌, ℕ, Bool, true, false, List, [], ◌∷◌, ◌++◌, Option, IfSome}
use Rattle.std.specs.Prelude.{Some, None, Result, Ok, Err, MatchResult, codes}
use Rattle.std.specs.Result.{IsErrAnd}
use Rattle.std.specs.declared.io.ErrorKind.{ErrorKind}
use Rattle.std.specs.declared.io.ErrorKind.TheVariants.{OutOfMemory}
use Rattle.std.specs.Io.KnownBytes.{Appends, Keeps}
use Rattle.clap.specs.Words.{Text}
use Rattle.judge_engine.specs.declared.answer.Answer.{Answer}
use Rattle.judge_engine.specs.declared.answer.Answer.TheVariants.{Yes, No, Undecided}
use Rattle.judge_engine.specs.declared.fault.Fault.{Fault}
use Rattle.judge_engine.specs.declared.fault.Fault.TheVariants as faults
use Rattle.judge_engine.specs.Answers as answers
use Rattle.judge_engine.specs.DotLines.{text_or_graph}
use Rattle.judge_engine.specs.Files.{Checks, FailsToCheck}
use Rattle.judge_engine.specs.OrderLines.{order_text}
use Rattle.judge_engine.specs.Ordered.{IsAnswerText, IsTextFor, WritesAnswer}
use Rattle.judge_engine.specs.Outcomes.{LeavesOutcomes, WritesOutcomes}
use Rattle.judge_engine.specs.Outputs.{LeavesOutput, LeavesText, WritesLine}
use Rattle.judge_engine.specs.Watching.{FailsToWatch, Watches}
use Rattle.judge_engine.specs.Whys.{IsExplained, LeavesExplanation, WritesExplanation}
use Rattle.judge_program.specs.declared.failure.TheConstants.{USAGE}
use Rattle.judge_program.specs.declared.failure.Failure.{Failure}
use Rattle.judge_program.specs.declared.failure.Failure.TheVariants as failures
use Rattle.judge_program.specs.declared.program.TheConstants.{VERSION}
use Rattle.judge_program.specs.Failures.{message_of, status_of}
use Rattle.judge_program.specs.declared.words.Order.TheVariants.{Given, Any}
use Rattle.judge_program.specs.Words.{Asked, Spells, Check, Why, Watch, Outcomes, Help, Version}

-- The outcome of a run: an answer or a failure.
abbrev pub RunResult : Type 0
RunResult = Result Answer Failure

-- For each name, the bytes of the file with this name, if they are known. The file `-` is standard
-- input.
abbrev pub Files : Type 0
Files = Text → Option (List ℕ)

-- The failure is a fault of the engine, and the fault has this property.
abbrev pub ByFault : (Fault → Type 0) → Failure → Type 0
ByFault P (failures.Fault fault) = P fault
ByFault P failure = ⊥

-- The answer says whether all is well, and `P` holds for this.
abbrev pub ByWell : (Bool → Type 0) → Answer → Type 0
ByWell P Yes = P true
ByWell P No = P false
ByWell P Undecided = ⊥

abbrev pub EndsWith : (Answer → Type 0) → (Fault → Type 0) → RunResult → Type 0
EndsWith IsDone HasFailed outcome = MatchResult outcome IsDone (ByFault HasFailed)

-- A text and a line feed are written, and the answer is that all is well.
abbrev pub Prints : Text → Option (List ℕ) → Option (List ℕ) → Answer → Type 0
Prints text old new answer = (answer ≡ Yes) × Appends old new (text ++ 10 ∷ [])

-- What standard output has after `outcomes` has failed. After a fault of the engine,
-- `LeavesOutcomes` says what was written. If memory was refused before the engine was called,
-- standard output is unchanged.
abbrev pub LeavesBoth : Option (List ℕ) → Option (List ℕ) → Option (List ℕ) → Option (List ℕ)
    → Failure → Type 0
LeavesBoth scripts history old new (failures.Outcomes fault) =
    LeavesOutcomes scripts history old new fault
LeavesBoth scripts history old new (failures.Fault fault) =
    (fault ≡ faults.NoMemory) × Keeps old new
LeavesBoth scripts history old new failures.Usage = ⊥

-- The output and the outcome of a request. `files` gives the bytes of the files.
abbrev pub Fulfils : Asked → Files → Option (List ℕ) → Option (List ℕ) → RunResult → Type 0
Fulfils (Check (Given by_commits) shows file) files old new = EndsWith
    (ByWell (λ well. WritesLine (Checks by_commits (files file)) well old new))
    (LeavesOutput (Checks by_commits (files file)) (FailsToCheck (files file)) old new)
Fulfils (Check (Any real_time most_branches) shows file) files old new = EndsWith
    (λ answer. WritesAnswer real_time (order_text real_time shows) (files file) answer old new)
    (LeavesText (IsAnswerText real_time (order_text real_time shows) (files file))
    (FailsToCheck (files file)) old new)
Fulfils (Why (Given by_commits) as_graph file) files old new = EndsWith
    (ByWell (λ well. WritesExplanation by_commits (files file) well old new))
    (LeavesExplanation (IsExplained by_commits) (files file) old new)
Fulfils (Why (Any real_time most_branches) as_graph file) files old new = EndsWith
    (λ answer. WritesAnswer real_time (text_or_graph real_time as_graph) (files file) answer old new)
    (LeavesExplanation (IsTextFor real_time (text_or_graph real_time as_graph)) (files file) old new)
Fulfils (Watch basis) files old new = EndsWith
    (ByWell (λ well. WritesLine (Watches basis (files (codes "-"))) well old new))
    (LeavesOutput (Watches basis (files (codes "-")))
    (FailsToWatch basis (files (codes "-"))) old new)
Fulfils (Outcomes scripts history) files old new = λ outcome. MatchResult outcome
    (ByWell (WritesOutcomes (files scripts) (files history) old new))
    (LeavesBoth (files scripts) (files history) old new)
Fulfils Help files old new = EndsWith (Prints USAGE.now old new) (λ fault. fault ≡ faults.Write)
Fulfils Version files old new = EndsWith (Prints VERSION.now old new)
    (λ fault. fault ≡ faults.Write)

-- Nothing was done and nothing was written. The failure is that memory was refused, or it is
-- `Usage`. If it is `Usage` and the words are known, they make no request.
abbrev pub DoesNothing : Option (List Text) → Option (List ℕ) → Option (List ℕ) → Failure → Type 0
DoesNothing spoken old new failures.Usage =
    Keeps old new × IfSome spoken (λ words. Spells words None)
DoesNothing spoken old new (failures.Fault fault) = Keeps old new × (fault ≡ faults.NoMemory)
DoesNothing spoken old new (failures.Outcomes fault) = ⊥

-- The request `what` was done. If the words are known, they make this request.
pub record DoesAsked (spoken : Option (List Text)) (files : Files) (old new : Option (List ℕ))
    (outcome : RunResult) : Type 0 where
  pub what : Asked
  pub asks : IfSome spoken (λ words. Spells words (Some what))
  pub does : Fulfils what files old new outcome

-- The output and the outcome of a run.
abbrev pub Runs : Option (List Text) → Files → Option (List ℕ) → Option (List ℕ) → RunResult
    → Type 0
Runs spoken files old new outcome =
    DoesAsked spoken files old new outcome ⊎ IsErrAnd outcome (DoesNothing spoken old new)

-- `NoMemory` if the error is that memory was refused, else the other failure.
abbrev pub memory_or : ErrorKind → Failure → Failure
memory_or OutOfMemory other = failures.Fault faults.NoMemory
memory_or kind other = other

-- The exit status after a run with this outcome.
abbrev pub status_after : RunResult → ℕ
status_after (Ok answer) = answers.status_after answer
status_after (Err failure) = status_of failure

-- What is written to standard error. After a failure it is the failure's message, if the whole
-- message was written (`is_told`). If there was no failure, nothing is written.
abbrev pub TellsError : Option (List ℕ) → Option (List ℕ) → Bool → RunResult → Type 0
TellsError old new is_told (Ok answer) = Keeps old new × (is_told ≡ true)
TellsError old new is_told (Err failure) =
    is_told ≡ true → Appends old new (message_of failure ++ 10 ∷ [])
