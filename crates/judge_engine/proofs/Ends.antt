-- How reading ends, and what is written then.
use Rattle.std.proofs.Common.{◌≡◌, ℕ, Bool, List, [], ◌++◌, Option, Result, Ok, Err, take, refl, sym, subst, inl, inr}
use Rattle.std.specs.Prelude.{IfOk, IfErr, MatchResult, IfSome}
use Rattle.std.specs.Io.KnownBytes.{Appends, Consumes, IsAtEnd}
use Rattle.txn_words.specs.declared.entry.Entry.{Entry}
use Rattle.history_check.specs.declared.verdict.Verdict.{Verdict}
use Rattle.history_check.specs.Verdicts.{says_legal, verdict_line}
use Rattle.order_check.specs.declared.verdict.Verdict.{Verdict as Found}
use Rattle.judge_engine.specs.declared.answer.Answer.{Answer}
use Rattle.judge_engine.specs.declared.basis.Basis.{Basis}
use Rattle.judge_engine.specs.declared.fault.Fault.{Fault}
use Rattle.judge_engine.specs.declared.fault.Fault.TheVariants.{Input, Line, NoMemory, Read, Write}
use Rattle.txn_files.specs.EntryLines.{history_of_lines}
use Rattle.txn_files.specs.Reading.{IsRead}
use Rattle.judge_engine.specs.Files.{FailsToCheck, IsExplainedFile, IsUnjudgedFile}
use Rattle.judge_engine.specs.Ordered.{IsAnswered, WritesAnswer}
use Rattle.judge_engine.specs.Outputs.{FailsToWrite, IsLineOf, LeavesOutput, LeavesText}
use Rattle.judge_engine.specs.Watching.{FailsToWatch, IsJudgedLines, IsRefusedLine, IsUnjudged, Watches}
use Rattle.judge_engine.specs.Whys.{IsExplained, LeavesExplanation, Tells}
use Rattle.judge_engine.proofs.Known.{OfAll-early, OfAll-read, keeps_all}

-- ---- results

pub ok_each : {A B : Type 0} (r : Result A B) (W : Basis → Type 0) (P : Basis → A → Type 0) (Q : Basis → B → Type 0) → ((basis : Basis) → W basis → MatchResult r (P basis) (Q basis)) → IfOk r (λ x. (basis : Basis) → W basis → P basis x)
ok_each (Ok x) W P Q f = f
ok_each (Err e) W P Q f = tt

pub err_each : {A B : Type 0} (r : Result A B) (W : Basis → Type 0) (P : Basis → A → Type 0) (Q : Basis → B → Type 0) → ((basis : Basis) → W basis → MatchResult r (P basis) (Q basis)) → IfErr r (λ e. (basis : Basis) → W basis → Q basis e)
err_each (Ok x) W P Q f = tt
err_each (Err e) W P Q f = f

pub err_more : {A B : Type 0} (r : Result A B) (P Q : B → Type 0) → ((e : B) → P e → Q e) → IfErr r P → IfErr r Q
err_more (Ok x) P Q f h = tt
err_more (Err e) P Q f h = f e h

-- ---- reading

failed_at_end : (basis : Basis) (a b : Option (List ℕ)) (bytes : List ℕ) (fault : Fault) → Consumes a b bytes → IsAtEnd b → IsUnjudged basis bytes fault → FailsToWatch basis a fault
failed_at_end basis a b bytes (Line number fault) p end h = OfAll-read (λ bs. IsRefusedLine basis (history_of_lines bs) number fault) a b bytes p end h
failed_at_end basis a b bytes NoMemory p end h = tt
failed_at_end basis a b bytes Read p end h = tt
failed_at_end basis a b bytes (Input fault) p end h = h
failed_at_end basis a b bytes Write p end h = h

pub ended : (basis : Basis) (a b : Option (List ℕ)) (bytes : List ℕ) (r : Result Verdict Fault) → Consumes a b bytes → IsAtEnd b → MatchResult r (IsJudgedLines basis bytes) (IsUnjudged basis bytes) → MatchResult r (Watches basis a) (FailsToWatch basis a)
ended basis a b bytes (Ok outcome) p end h = OfAll-read (λ bs. IsJudgedLines basis bs outcome) a b bytes p end h
ended basis a b bytes (Err fault) p end h = failed_at_end basis a b bytes fault p end h

pub failed_early : (basis : Basis) (a b : Option (List ℕ)) (bytes : List ℕ) (fault : Fault) → Consumes a b bytes → ((more : List ℕ) → IsUnjudged basis (bytes ++ more) fault) → FailsToWatch basis a fault
failed_early basis a b bytes (Line number fault) p h = OfAll-early (λ bs. IsRefusedLine basis (history_of_lines bs) number fault) a b bytes p h
failed_early basis a b bytes NoMemory p h = tt
failed_early basis a b bytes Read p h = tt
failed_early basis a b bytes (Input fault) p h = h []
failed_early basis a b bytes Write p h = h []

-- ---- what is written at a fault

pub leaves_watch : (P : Verdict → Type 0) (basis : Basis) (remaining old : Option (List ℕ)) (fault : Fault) → FailsToWatch basis remaining fault → LeavesOutput P (FailsToWatch basis remaining) old old fault
leaves_watch P basis remaining old (Line number fault) h = (keeps_all old, h)
leaves_watch P basis remaining old NoMemory h = keeps_all old
leaves_watch P basis remaining old Read h = keeps_all old
leaves_watch P basis remaining old (Input fault) h = absurd h
leaves_watch P basis remaining old Write h = absurd h

pub leaves_check : (P : List ℕ → Type 0) (remaining old : Option (List ℕ)) (bytes : List ℕ) (fault : Fault) → IsRead remaining bytes → IsUnjudgedFile bytes fault → LeavesText P (FailsToCheck remaining) old old fault
leaves_check P remaining old bytes (Input fault) known h = (keeps_all old, (bytes, known, h))
leaves_check P remaining old bytes NoMemory known h = keeps_all old
leaves_check P remaining old bytes Read known h = keeps_all old
leaves_check P remaining old bytes (Line number fault) known h = absurd h
leaves_check P remaining old bytes Write known h = absurd h

-- A text for which `P` holds was to be written, and memory was there for it.
pub leaves_answer : (P : List ℕ → Type 0) (F : Fault → Type 0) (old new : Option (List ℕ)) (text : List ℕ) (fault : Fault) → P text → FailsToWrite old new text fault → LeavesText P F old new fault
leaves_answer P F old new text Write right h = (text, right, h)
leaves_answer P F old new text NoMemory right h = h
leaves_answer P F old new text Read right h = absurd h
leaves_answer P F old new text (Input fault) right h = absurd h
leaves_answer P F old new text (Line number fault) right h = absurd h

pub leaves_verdict : (P : Verdict → Type 0) (F : Fault → Type 0) (old new : Option (List ℕ)) (outcome : Verdict) (fault : Fault) → P outcome → FailsToWrite old new (verdict_line outcome) fault → LeavesOutput P F old new fault
leaves_verdict P F old new outcome fault right h = leaves_answer (IsLineOf P) F old new (verdict_line outcome) fault (outcome, right, refl) h

pub answer_written : (real_time : Bool) (text_of : List Entry → Found → List ℕ) (remaining old new : Option (List ℕ)) (bytes : List ℕ) (answer : Answer) (text : List ℕ) (r : Result Answer Fault) → IsRead remaining bytes → IsAnswered real_time text_of bytes answer text
    → IfOk r (λ written. (written ≡ answer) × Appends old new text) → IfOk r (λ written. WritesAnswer real_time text_of remaining written old new)
answer_written real_time text_of remaining old new bytes answer text (Ok written) known is (same, grows) = (bytes, known, (text, subst (λ (a : Answer). IsAnswered real_time text_of bytes a text) (sym same) is, grows))
answer_written real_time text_of remaining old new bytes answer text (Err fault) known is h = tt

-- ---- what `why` leaves at a fault

module _ (remaining old new : Option (List ℕ)) (bytes : List ℕ) (known : IsRead remaining bytes) where
  pub leaves_told : (IsText : List ℕ → List ℕ → Type 0) (fault : Fault) → Tells bytes old new fault → LeavesExplanation IsText remaining old new fault
  leaves_told IsText (Input fault) h = (bytes, known, h)
  leaves_told IsText NoMemory h = h
  leaves_told IsText Read h = h
  leaves_told IsText Write h = (bytes, known, (h.0, inr h.1, h.2))
  leaves_told IsText (Line number fault) h = absurd h

  pub leaves_text : (IsText : List ℕ → List ℕ → Type 0) (text : List ℕ) (fault : Fault) → IsText bytes text → FailsToWrite old new text fault → LeavesExplanation IsText remaining old new fault
  leaves_text IsText text Write is h = (bytes, known, (text, inl is, h))
  leaves_text IsText text NoMemory is h = h
  leaves_text IsText text Read is h = absurd h
  leaves_text IsText text (Input fault) is h = absurd h
  leaves_text IsText text (Line number fault) is h = absurd h

  pub leaves_explained : (by_commits : Bool) (outcome : Verdict) (lines : List ℕ) (fault : Fault) → IsExplainedFile by_commits bytes outcome lines → FailsToWrite old new (verdict_line outcome ++ lines) fault → LeavesExplanation (IsExplained by_commits) remaining old new fault
  leaves_explained by_commits outcome lines fault is = leaves_text (IsExplained by_commits) (verdict_line outcome ++ lines) fault (says_legal outcome, (outcome, lines, is, refl, refl))
