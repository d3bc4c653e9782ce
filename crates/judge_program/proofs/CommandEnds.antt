-- Shows how each command ends, because its engine ran on the source, its engine failed, or the source
-- was not opened.
use Rattle.std.proofs.Common.{◌≡◌, ◌⊎◌, inl, inr, ℕ, Bool, true, false, List, Option, Some, None, Ok, Err, refl, sym, subst, ◌∙◌, codes}
use Rattle.std.specs.Result.{IsErrAnd}
use Rattle.std.specs.Io.KnownBytes.{Keeps}
use Rattle.clap.specs.Words.{Text}
use Rattle.judge_engine.specs.declared.answer.Answer.{Answer}
use Rattle.judge_engine.specs.declared.basis.Basis.{Basis}
use Rattle.judge_engine.specs.declared.fault.Fault.{Fault as EngineFault}
use Rattle.judge_engine.specs.declared.fault.Fault.TheVariants as faults
use Rattle.judge_engine.specs.declared.outcomes.OutcomesFault.{OutcomesFault}
use Rattle.judge_engine.specs.declared.outcomes.OutcomesFault.TheVariants as both
use Rattle.judge_engine.specs.Answers.{answer_if}
use Rattle.judge_engine.specs.DotLines.{text_or_graph}
use Rattle.judge_engine.specs.Files.{Checks, FailsToCheck}
use Rattle.judge_engine.specs.OrderLines.{order_text}
use Rattle.judge_engine.specs.Ordered.{IsAnswerText, IsTextFor, WritesAnswer}
use Rattle.judge_engine.specs.Outcomes.{LeavesOutcomes, WritesOutcomes}
use Rattle.judge_engine.specs.Outputs.{IsLineOf, LeavesOutput, LeavesText, WritesLine}
use Rattle.judge_engine.specs.Watching.{FailsToWatch, Watches}
use Rattle.judge_engine.specs.Whys.{IsExplained, LeavesExplanation, WritesExplanation}
use Rattle.judge_program.specs.declared.failure.Failure.{Failure}
use Rattle.judge_program.specs.declared.failure.Failure.TheVariants.{Fault, Outcomes}
use Rattle.judge_program.specs.declared.words.Order.{Order}
use Rattle.judge_program.specs.declared.words.Order.TheVariants.{Given, Any}
use Rattle.judge_program.specs.Words as asked
use Rattle.judge_program.specs.Runs.{ByFault, ByWell, Fulfils, EndsWith, Files, LeavesBoth, RunResult}
use Rattle.judge_program.proofs.Sources.{Holds, of_file, of_all, writes_line, writes_explanation, leaves, leaves_explanation, fails_to_check, fails_to_watch, writes_outcomes, leaves_outcomes}

pub keeps_same : (known : Option (List ℕ)) → Keeps known known
keeps_same None = tt
keeps_same (Some xs) = refl

by_well : (P : Bool → Type 0) (well : Bool) → P well → ByWell P (answer_if well)
by_well P true holds = holds
by_well P false holds = holds

-- If the outcome is a fault of the engine, and `P` holds for the fault, `EndsWith` holds.
failed : (IsDone : Answer → Type 0) (P : EngineFault → Type 0) (outcome : RunResult) (fault : EngineFault) → P fault → IsErrAnd outcome (λ e. e ≡ Fault fault) → EndsWith IsDone P outcome
failed IsDone P (Ok answer) fault holds err = absurd err
failed IsDone P (Err e) fault holds err = subst (ByFault P) (sym err) holds

-- Suppose that a source was not opened. If `P` holds for the faults `NoMemory` and `Read`, then
-- `EndsWith` holds.
not_opened : (IsDone : Answer → Type 0) (P : EngineFault → Type 0) (outcome : RunResult) (failure : Failure) → P faults.NoMemory → P faults.Read → (failure ≡ Fault faults.NoMemory) ⊎ (failure ≡ Fault faults.Read)
    → IsErrAnd outcome (λ e. e ≡ failure) → EndsWith IsDone P outcome
not_opened IsDone P (Ok answer) failure memory read which err = absurd err
not_opened IsDone P (Err e) failure memory read (inl is) err = subst (ByFault P) (sym (err ∙ is)) memory
not_opened IsDone P (Err e) failure memory read (inr is) err = subst (ByFault P) (sym (err ∙ is)) read

pub check_not_opened : (order : Order) (shows : Bool) (name : Text) (files : Files) (old : Option (List ℕ)) (outcome : RunResult) (failure : Failure) → (failure ≡ Fault faults.NoMemory) ⊎ (failure ≡ Fault faults.Read)
    → IsErrAnd outcome (λ e. e ≡ failure) → Fulfils (asked.Check order shows name) files old old outcome
check_not_opened (Given by_commits) shows name files old outcome failure =
    not_opened (ByWell (λ well. WritesLine (Checks by_commits (files name)) well old old)) (LeavesOutput (Checks by_commits (files name)) (FailsToCheck (files name)) old old) outcome failure (keeps_same old) (keeps_same old)
check_not_opened (Any real_time most) shows name files old outcome failure =
    not_opened (λ answer. WritesAnswer real_time (order_text real_time shows) (files name) answer old old) (LeavesText (IsAnswerText real_time (order_text real_time shows) (files name)) (FailsToCheck (files name)) old old) outcome failure (keeps_same old) (keeps_same old)

pub why_not_opened : (order : Order) (as_graph : Bool) (name : Text) (files : Files) (old : Option (List ℕ)) (outcome : RunResult) (failure : Failure) → (failure ≡ Fault faults.NoMemory) ⊎ (failure ≡ Fault faults.Read)
    → IsErrAnd outcome (λ e. e ≡ failure) → Fulfils (asked.Why order as_graph name) files old old outcome
why_not_opened (Given by_commits) as_graph name files old outcome failure =
    not_opened (ByWell (λ well. WritesExplanation by_commits (files name) well old old)) (LeavesExplanation (IsExplained by_commits) (files name) old old) outcome failure (keeps_same old) (keeps_same old)
why_not_opened (Any real_time most) as_graph name files old outcome failure =
    not_opened (λ answer. WritesAnswer real_time (text_or_graph real_time as_graph) (files name) answer old old) (LeavesExplanation (IsTextFor real_time (text_or_graph real_time as_graph)) (files name) old old) outcome failure (keeps_same old) (keeps_same old)

-- If `check` has written the line of a verdict on the source with this name, `Fulfils` holds for
-- this run.
pub check_done : (by_commits shows : Bool) (name : Text) (files : Files) (bytes old new : Option (List ℕ)) (well : Bool) → Holds (files name) bytes → WritesLine (Checks by_commits bytes) well old new
    → Fulfils (asked.Check (Given by_commits) shows name) files old new (Ok (answer_if well))
check_done by_commits shows name files bytes old new well same wrote =
    by_well (λ w. WritesLine (Checks by_commits (files name)) w old new) well (writes_line _ _ well old new (λ v. of_file (files name) bytes _ same) wrote)

pub check_failed : (by_commits shows : Bool) (name : Text) (files : Files) (bytes old new : Option (List ℕ)) (outcome : RunResult) (fault : EngineFault) → Holds (files name) bytes
    → LeavesOutput (Checks by_commits bytes) (FailsToCheck bytes) old new fault → IsErrAnd outcome (λ e. e ≡ Fault fault) → Fulfils (asked.Check (Given by_commits) shows name) files old new outcome
check_failed by_commits shows name files bytes old new outcome fault same left =
    failed (ByWell (λ well. WritesLine (Checks by_commits (files name)) well old new)) (LeavesOutput (Checks by_commits (files name)) (FailsToCheck (files name)) old new) outcome fault
    (leaves (IsLineOf (Checks by_commits bytes)) (IsLineOf (Checks by_commits (files name))) (FailsToCheck bytes) _ old new fault (λ text (v, right, is). (v, of_file (files name) bytes _ same right, is)) (λ f. fails_to_check (files name) bytes f same) left)

-- If `check_serializable` has written its text for the source with this name, `Fulfils` holds for
-- this run.
pub order_done : (real_time : Bool) (most : ℕ) (shows : Bool) (name : Text) (files : Files) (bytes old new : Option (List ℕ)) (answer : Answer) → Holds (files name) bytes → WritesAnswer real_time (order_text real_time shows) bytes answer old new
    → Fulfils (asked.Check (Any real_time most) shows name) files old new (Ok answer)
order_done real_time most shows name files bytes old new answer same = of_file (files name) bytes _ same

pub order_failed : (real_time : Bool) (most : ℕ) (shows : Bool) (name : Text) (files : Files) (bytes old new : Option (List ℕ)) (outcome : RunResult) (fault : EngineFault) → Holds (files name) bytes
    → LeavesText (IsAnswerText real_time (order_text real_time shows) bytes) (FailsToCheck bytes) old new fault → IsErrAnd outcome (λ e. e ≡ Fault fault) → Fulfils (asked.Check (Any real_time most) shows name) files old new outcome
order_failed real_time most shows name files bytes old new outcome fault same left =
    failed (λ answer. WritesAnswer real_time (order_text real_time shows) (files name) answer old new) (LeavesText (IsAnswerText real_time (order_text real_time shows) (files name)) (FailsToCheck (files name)) old new) outcome fault
    (leaves (IsAnswerText real_time (order_text real_time shows) bytes) (IsAnswerText real_time (order_text real_time shows) (files name)) (FailsToCheck bytes) _ old new fault (λ text. of_file (files name) bytes _ same) (λ f. fails_to_check (files name) bytes f same) left)

-- If `why` has written an explanation of the source with this name, `Fulfils` holds for
-- this run.
pub why_done : (by_commits as_graph : Bool) (name : Text) (files : Files) (bytes old new : Option (List ℕ)) (well : Bool) → Holds (files name) bytes → WritesExplanation by_commits bytes well old new
    → Fulfils (asked.Why (Given by_commits) as_graph name) files old new (Ok (answer_if well))
why_done by_commits as_graph name files bytes old new well same wrote =
    by_well (λ w. WritesExplanation by_commits (files name) w old new) well (writes_explanation by_commits (files name) bytes old new well same wrote)

pub why_failed : (by_commits as_graph : Bool) (name : Text) (files : Files) (bytes old new : Option (List ℕ)) (outcome : RunResult) (fault : EngineFault) → Holds (files name) bytes → LeavesExplanation (IsExplained by_commits) bytes old new fault
    → IsErrAnd outcome (λ e. e ≡ Fault fault) → Fulfils (asked.Why (Given by_commits) as_graph name) files old new outcome
why_failed by_commits as_graph name files bytes old new outcome fault same fails =
    failed (ByWell (λ well. WritesExplanation by_commits (files name) well old new)) (LeavesExplanation (IsExplained by_commits) (files name) old new) outcome fault (leaves_explanation (IsExplained by_commits) (files name) bytes old new fault same fails)

-- If `why_serializable` has written its text for the source with this name, `Fulfils` holds for
-- this run.
pub reason_done : (real_time : Bool) (most : ℕ) (as_graph : Bool) (name : Text) (files : Files) (bytes old new : Option (List ℕ)) (answer : Answer) → Holds (files name) bytes → WritesAnswer real_time (text_or_graph real_time as_graph) bytes answer old new
    → Fulfils (asked.Why (Any real_time most) as_graph name) files old new (Ok answer)
reason_done real_time most as_graph name files bytes old new answer same = of_file (files name) bytes _ same

pub reason_failed : (real_time : Bool) (most : ℕ) (as_graph : Bool) (name : Text) (files : Files) (bytes old new : Option (List ℕ)) (outcome : RunResult) (fault : EngineFault) → Holds (files name) bytes → LeavesExplanation (IsTextFor real_time (text_or_graph real_time as_graph)) bytes old new fault
    → IsErrAnd outcome (λ e. e ≡ Fault fault) → Fulfils (asked.Why (Any real_time most) as_graph name) files old new outcome
reason_failed real_time most as_graph name files bytes old new outcome fault same fails =
    failed (λ answer. WritesAnswer real_time (text_or_graph real_time as_graph) (files name) answer old new) (LeavesExplanation (IsTextFor real_time (text_or_graph real_time as_graph)) (files name) old new) outcome fault (leaves_explanation (IsTextFor real_time (text_or_graph real_time as_graph)) (files name) bytes old new fault same fails)

-- If `watch` has written the line of a verdict on the entries of standard input, `Fulfils` holds
-- for this run.
pub watch_done : (basis : Basis) (files : Files) (bytes old new : Option (List ℕ)) (well : Bool) → Holds (files (codes "-")) bytes → WritesLine (Watches basis bytes) well old new
    → Fulfils (asked.Watch basis) files old new (Ok (answer_if well))
watch_done basis files bytes old new well same wrote =
    by_well (λ w. WritesLine (Watches basis (files (codes "-"))) w old new) well (writes_line _ _ well old new (λ v. of_all (files (codes "-")) bytes _ same) wrote)

pub watch_failed : (basis : Basis) (files : Files) (bytes old new : Option (List ℕ)) (outcome : RunResult) (fault : EngineFault) → Holds (files (codes "-")) bytes
    → LeavesOutput (Watches basis bytes) (FailsToWatch basis bytes) old new fault → IsErrAnd outcome (λ e. e ≡ Fault fault) → Fulfils (asked.Watch basis) files old new outcome
watch_failed basis files bytes old new outcome fault same left =
    let known = files (codes "-") in
    failed (ByWell (λ well. WritesLine (Watches basis known) well old new)) (LeavesOutput (Watches basis known) (FailsToWatch basis known) old new) outcome fault
    (leaves (IsLineOf (Watches basis bytes)) (IsLineOf (Watches basis known)) (FailsToWatch basis bytes) _ old new fault (λ text (v, right, is). (v, of_all known bytes _ same right, is)) (λ f. fails_to_watch basis known bytes f same) left)

pub watch_not_opened : (basis : Basis) (files : Files) (old : Option (List ℕ)) (outcome : RunResult) (failure : Failure) → (failure ≡ Fault faults.NoMemory) ⊎ (failure ≡ Fault faults.Read)
    → IsErrAnd outcome (λ e. e ≡ failure) → Fulfils (asked.Watch basis) files old old outcome
watch_not_opened basis files old outcome failure =
    let known = files (codes "-") in
    not_opened (ByWell (λ well. WritesLine (Watches basis known) well old old)) (LeavesOutput (Watches basis known) (FailsToWatch basis known) old old) outcome failure (keeps_same old) (keeps_same old)

-- If `outcomes` has written a report on the two sources, `Fulfils` holds for this run.
pub outcomes_done : (scripts history : Text) (files : Files) (left right old new : Option (List ℕ)) (well : Bool) → Holds (files scripts) left → Holds (files history) right → WritesOutcomes left right old new well
    → Fulfils (asked.Outcomes scripts history) files old new (Ok (answer_if well))
outcomes_done scripts history files left right old new well one two wrote =
    by_well (WritesOutcomes (files scripts) (files history) old new) well (writes_outcomes (files scripts) (files history) left right old new well one two wrote)

pub outcomes_failed : (scripts history : Text) (files : Files) (left right old new : Option (List ℕ)) (outcome : RunResult) (fault : OutcomesFault) → Holds (files scripts) left → Holds (files history) right
    → LeavesOutcomes left right old new fault → IsErrAnd outcome (λ e. e ≡ Outcomes fault) → Fulfils (asked.Outcomes scripts history) files old new outcome
outcomes_failed scripts history files left right old new (Ok well) fault one two kept err = absurd err
outcomes_failed scripts history files left right old new (Err e) fault one two kept err =
    subst (LeavesBoth (files scripts) (files history) old new) (sym err) (leaves_outcomes (files scripts) (files history) left right old new fault one two kept)

pub scripts_not_opened : (scripts history : Text) (files : Files) (old : Option (List ℕ)) (outcome : RunResult) (failure : Failure) → (failure ≡ Fault faults.NoMemory) ⊎ (failure ≡ Outcomes both.ScriptsRead)
    → IsErrAnd outcome (λ e. e ≡ failure) → Fulfils (asked.Outcomes scripts history) files old old outcome
scripts_not_opened scripts history files old (Ok well) failure which err = absurd err
scripts_not_opened scripts history files old (Err e) failure (inl is) err =
    subst (LeavesBoth (files scripts) (files history) old old) (sym (err ∙ is)) (refl, keeps_same old)
scripts_not_opened scripts history files old (Err e) failure (inr is) err =
    subst (LeavesBoth (files scripts) (files history) old old) (sym (err ∙ is)) (keeps_same old)

pub history_not_opened : (scripts history : Text) (files : Files) (old : Option (List ℕ)) (outcome : RunResult) (failure : Failure) → (failure ≡ Fault faults.NoMemory) ⊎ (failure ≡ Outcomes both.HistoryRead)
    → IsErrAnd outcome (λ e. e ≡ failure) → Fulfils (asked.Outcomes scripts history) files old old outcome
history_not_opened scripts history files old (Ok well) failure which err = absurd err
history_not_opened scripts history files old (Err e) failure (inl is) err =
    subst (LeavesBoth (files scripts) (files history) old old) (sym (err ∙ is)) (refl, keeps_same old)
history_not_opened scripts history files old (Err e) failure (inr is) err =
    subst (LeavesBoth (files scripts) (files history) old old) (sym (err ∙ is)) (keeps_same old)
