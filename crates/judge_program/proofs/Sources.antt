-- If the bytes of a file are known, the source with the file's name has these bytes. So a statement
-- about the bytes of the source also holds of the known bytes.
use Rattle.std.proofs.Common.{◌≡◌, ℕ, Bool, List, Option, Some, None, take, subst}
use Rattle.std.specs.Prelude.{IfSome}
use Rattle.history_check.specs.declared.verdict.Verdict.{Verdict}
use Rattle.judge_engine.specs.declared.basis.Basis.{Basis}
use Rattle.judge_engine.specs.declared.fault.Fault.{Fault}
use Rattle.judge_engine.specs.declared.fault.Fault.TheVariants.{Input, Line, NoMemory, Read, Write}
use Rattle.judge_engine.specs.declared.outcomes.OutcomesFault.{OutcomesFault}
use Rattle.judge_engine.specs.declared.outcomes.OutcomesFault.TheVariants as both
use Rattle.judge_engine.specs.Files.{FailsToCheck, OfFile, max_read}
use Rattle.judge_engine.specs.Outcomes.{IsOutcomesText, LeavesOutcomes, WritesOutcomes, TellsOutcomes}
use Rattle.judge_engine.specs.Outputs.{LeavesText, WritesLine}
use Rattle.judge_engine.specs.Watching.{FailsToWatch, OfAll}
use Rattle.judge_engine.specs.Whys.{LeavesExplanation, WritesExplanation}

-- If bytes are known, the source has these bytes.
abbrev pub Holds : Option (List ℕ) → Option (List ℕ) → Type 0
Holds known bytes = IfSome known (λ xs. bytes ≡ Some xs)

read_same : (known bytes : Option (List ℕ)) (P : List ℕ → Type 0) → Holds known bytes → IfSome bytes P → IfSome known P
read_same None bytes P same holds = tt
read_same (Some xs) bytes P same holds = subst (λ b. IfSome b P) same holds

pub of_file : (known bytes : Option (List ℕ)) (P : List ℕ → Type 0) → Holds known bytes → OfFile bytes P → OfFile known P
of_file known bytes P same (read, is, holds) = (read, read_same known bytes (λ all. read ≡ take max_read all) same is, holds)

pub of_all : (known bytes : Option (List ℕ)) (P : List ℕ → Type 0) → Holds known bytes → OfAll bytes P → OfAll known P
of_all known bytes P same (read, is, holds) = (read, read_same known bytes (λ all. read ≡ all) same is, holds)

-- If `P` implies `Q`, `WritesLine` with `P` implies `WritesLine` with `Q`.
pub writes_line : (P Q : Verdict → Type 0) (well : Bool) (old new : Option (List ℕ)) → ((v : Verdict) → P v → Q v) → WritesLine P well old new → WritesLine Q well old new
writes_line P Q well old new follows (v, right, says, grows) = (v, follows v right, says, grows)

pub leaves : (P Q : List ℕ → Type 0) (F G : Fault → Type 0) (old new : Option (List ℕ)) (fault : Fault) → ((text : List ℕ) → P text → Q text) → ((f : Fault) → F f → G f) → LeavesText P F old new fault → LeavesText Q G old new fault
leaves P Q F G old new Write follows fails (text, right, part) = (text, follows text right, part)
leaves P Q F G old new (Input fault) follows fails h = (h.0, fails _ h.1)
leaves P Q F G old new (Line number fault) follows fails h = (h.0, fails _ h.1)
leaves P Q F G old new NoMemory follows fails h = h
leaves P Q F G old new Read follows fails h = h

pub fails_to_check : (known bytes : Option (List ℕ)) (fault : Fault) → Holds known bytes → FailsToCheck bytes fault → FailsToCheck known fault
fails_to_check known bytes (Input fault) same h = of_file known bytes _ same h
fails_to_check known bytes (Line number fault) same h = h
fails_to_check known bytes NoMemory same h = h
fails_to_check known bytes Read same h = h
fails_to_check known bytes Write same h = h

pub writes_explanation : (by_commits : Bool) (known bytes old new : Option (List ℕ)) (well : Bool) → Holds known bytes → WritesExplanation by_commits bytes well old new → WritesExplanation by_commits known well old new
writes_explanation by_commits known bytes old new well same h = of_file known bytes _ same h

pub leaves_explanation : (IsText : List ℕ → List ℕ → Type 0) (known bytes old new : Option (List ℕ)) (fault : Fault) → Holds known bytes → LeavesExplanation IsText bytes old new fault → LeavesExplanation IsText known old new fault
leaves_explanation IsText known bytes old new (Input fault) same h = of_file known bytes _ same h
leaves_explanation IsText known bytes old new (Line number fault) same h = h
leaves_explanation IsText known bytes old new NoMemory same h = h
leaves_explanation IsText known bytes old new Read same h = h
leaves_explanation IsText known bytes old new Write same h = of_file known bytes _ same h

pub fails_to_watch : (basis : Basis) (known bytes : Option (List ℕ)) (fault : Fault) → Holds known bytes → FailsToWatch basis bytes fault → FailsToWatch basis known fault
fails_to_watch basis known bytes (Line number fault) same h = of_all known bytes _ same h
fails_to_watch basis known bytes (Input fault) same h = h
fails_to_watch basis known bytes NoMemory same h = h
fails_to_watch basis known bytes Read same h = h
fails_to_watch basis known bytes Write same h = h

-- A report on the two sources of `outcomes` is also a report on the two files.
tells : (s h left right : Option (List ℕ)) (text : List ℕ) (well : Bool) → Holds s left → Holds h right → TellsOutcomes left right text well → TellsOutcomes s h text well
tells s h left right text well one two (read, is, more) =
    (read, read_same s left (λ all. read ≡ take max_read all) one is, of_file h right (λ right_read. IsOutcomesText read right_read text well) two more)

pub writes_outcomes : (s h left right old new : Option (List ℕ)) (well : Bool) → Holds s left → Holds h right → WritesOutcomes left right old new well → WritesOutcomes s h old new well
writes_outcomes s h left right old new well one two (text, told, grows) = (text, tells s h left right text well one two told, grows)

pub leaves_outcomes : (s h left right old new : Option (List ℕ)) (fault : OutcomesFault) → Holds s left → Holds h right → LeavesOutcomes left right old new fault → LeavesOutcomes s h old new fault
leaves_outcomes s h left right old new (both.Scripts fault) one two kept = (kept.0, of_file s left _ one kept.1)
leaves_outcomes s h left right old new (both.History fault) one two kept = (kept.0, of_file h right _ two kept.1, of_file s left _ one kept.2)
leaves_outcomes s h left right old new both.ScriptsRead one two kept = kept
leaves_outcomes s h left right old new both.HistoryRead one two kept = kept
leaves_outcomes s h left right old new both.NoMemory one two kept = kept
leaves_outcomes s h left right old new both.Write one two (text, well, told, part) = (text, well, tells s h left right text well one two told, part)
