-- The text of outcomes as it grows, their counts, and the scripts that are given up.
use Rattle.std.proofs.Common.{◌≡◌, ℕ, suc, ◌+◌, ◌<◌, Bool, true, false, cond, List, [], ◌∷◌, ◌++◌, length, take, get_or, Option, Ok, refl, sym, ap, subst, ◌∙◌, arith, append_assoc, append-nil, length-append, length-take-le}
use Rattle.std.proofs.lemmas.List.{take_more}
use Rattle.std.proofs.lemmas.List.Elements.{filter-append}
use Rattle.std.specs.List.{filter}
use Rattle.script_worker.specs.declared.outcome.Outcome.{Outcome}
use Rattle.judge_engine.specs.declared.outcomes.Kind.{Kind}
use Rattle.judge_engine.specs.declared.outcomes.OutcomesFault.{OutcomesFault}
use Rattle.judge_engine.specs.declared.outcomes.OutcomesFault.TheVariants.{Scripts, History, ScriptsRead, HistoryRead, NoMemory, Write}
use Rattle.std.specs.Prelude.{◌↔◌, IfSome, is_ok}
use Rattle.judge_engine.proofs.Known.{keeps_all}
use Rattle.txn_words.specs.declared.entry.Entry.{Entry}
use Rattle.txn_words.specs.Work.{Work}
use Rattle.txn_files.specs.HistoryFile.{history_of}
use Rattle.txn_files.specs.ScriptFile.{scripts_of}
use Rattle.piece_files.specs.Faults.{FailsAs}
use Rattle.piece_files.specs.declared.file_fault.FileFault.{FileFault}
use Rattle.piece_files.specs.declared.file_fault.FileFault.TheVariants as files
use Rattle.script_worker.specs.Outcomes.{AreOutcomes}
use Rattle.txn_files.specs.Reading.{IsRead}
use Rattle.judge_engine.specs.Files.{OfFile}
use Rattle.judge_engine.specs.Outcomes.{is_kind, how_many, outcome_line, outcome_lines, outcomes_text, IsWell, HistoryOf, FailsForScripts, FailsForHistory, LeavesOutcomes, of_scripts, of_history, TellsOutcomes}

count_push : (kind : Kind) (os : List Outcome) (o : Outcome) → how_many kind (os ++ o ∷ []) ≡ how_many kind os + cond (is_kind kind o) 1 0
count_push kind os o =
    ap length (filter-append (is_kind kind) os (o ∷ [])) ∙ length-append (filter (is_kind kind) os) (filter (is_kind kind) (o ∷ [])) ∙ ap (λ n. how_many kind os + n) (one (is_kind kind o))
  where
    one : (b : Bool) → length (cond b (o ∷ []) []) ≡ cond b 1 0
    one true = refl
    one false = refl

-- If one more outcome is of a kind, the count of this kind rises by one. Otherwise the count is
-- unchanged.
pub count_more : (kind : Kind) (os : List Outcome) (i : ℕ) (d : Outcome) → i < length os → how_many kind (take (i + 1) os) ≡ how_many kind (take i os) + cond (is_kind kind (get_or os i d)) 1 0
count_more kind os i d within = ap (how_many kind) (take_more os i d within) ∙ count_push kind (take i os) (get_or os i d)

lines_push : (workers n : ℕ) (os : List Outcome) (o : Outcome) → outcome_lines workers n (os ++ o ∷ []) ≡ outcome_lines workers n os ++ outcome_line workers (n + length os) o
lines_push workers n [] o = append-nil (outcome_line workers n o) ∙ ap (λ k. outcome_line workers k o) (none n)
  where
    none : (n : ℕ) → n ≡ n + 0
    none n = omega arith
lines_push workers n (x ∷ os) o =
    ap (λ more. outcome_line workers n x ++ more) (lines_push workers (suc n) os o)
    ∙ sym (append_assoc (outcome_line workers n x) (outcome_lines workers (suc n) os) (outcome_line workers (suc n + length os) o))
    ∙ ap (λ k. (outcome_line workers n x ++ outcome_lines workers (suc n) os) ++ outcome_line workers k o) (moved n (length os))
  where
    moved : (n k : ℕ) → suc n + k ≡ n + suc k
    moved n k = omega arith

-- One more outcome adds its line after the lines of the outcomes before it.
pub lines_more : (workers : ℕ) (os : List Outcome) (i : ℕ) (d : Outcome) → i < length os → outcome_lines workers 0 (take (i + 1) os) ≡ outcome_lines workers 0 (take i os) ++ outcome_line workers i (get_or os i d)
lines_more workers os i d within =
    let len = length-take-le i os (omega arith) in
    let place : 0 + length (take i os) ≡ i = omega (arith, len) in
    ap (outcome_lines workers 0) (take_more os i d within) ∙ lines_push workers 0 (take i os) (get_or os i d)
    ∙ ap (λ k. outcome_lines workers 0 (take i os) ++ outcome_line workers k (get_or os i d)) place

-- If a text is `start` followed by the lines of the first `i` outcomes, adding the next outcome's
-- line gives `start` followed by the lines of the first `i + 1` outcomes.
pub grown_lines : (new old start : List ℕ) (workers : ℕ) (os : List Outcome) (i : ℕ) (d : Outcome) → new ≡ old ++ outcome_line workers i (get_or os i d) → old ≡ start ++ outcome_lines workers 0 (take i os) → i < length os
    → new ≡ start ++ outcome_lines workers 0 (take (i + 1) os)
grown_lines new old start workers os i d line before within =
    line ∙ ap (λ t. t ++ outcome_line workers i (get_or os i d)) before ∙ append_assoc start (outcome_lines workers 0 (take i os)) (outcome_line workers i (get_or os i d))
    ∙ ap (λ m. start ++ m) (sym (lines_more workers os i d within))

-- If the script file or memory was refused, `FailsForScripts` holds for the fault.
pub fails_scripts : (left : Option (List ℕ)) (bytes : List ℕ) (fault : FileFault) → IsRead left bytes → FailsAs fault (scripts_of bytes) → FailsForScripts left (of_scripts fault)
fails_scripts left bytes files.NoMemory known fails = tt
fails_scripts left bytes files.NotJson known fails = (bytes, known, fails)
fails_scripts left bytes files.Member known fails = (bytes, known, fails)
fails_scripts left bytes (files.Piece part i) known fails = (bytes, known, fails)
fails_scripts left bytes files.Limit known fails = (bytes, known, fails)

-- If the history file or memory was refused, `FailsForHistory` holds for the fault.
pub fails_history : (left : Option (List ℕ)) (bytes : List ℕ) (fault : FileFault) → IsRead left bytes → FailsAs fault (history_of bytes) → FailsForHistory left (of_history fault)
fails_history left bytes files.NoMemory known fails = tt
fails_history left bytes files.NotJson known fails = (bytes, known, fails)
fails_history left bytes files.Member known fails = (bytes, known, fails)
fails_history left bytes (files.Piece part i) known fails = (bytes, known, fails)
fails_history left bytes files.Limit known fails = (bytes, known, fails)

-- If the scripts were read and the history was not, nothing was written.
pub leaves_history : (scripts history old : Option (List ℕ)) (work : Work) (fault : OutcomesFault) → OfFile scripts (λ bytes. scripts_of bytes ≡ Ok work) → FailsForHistory history fault → LeavesOutcomes scripts history old old fault
leaves_history scripts history old work (History fault) read fails = (keeps_all old, fails, (read.0, read.1, ap is_ok read.2))
leaves_history scripts history old work HistoryRead read fails = keeps_all old
leaves_history scripts history old work NoMemory read fails = keeps_all old
leaves_history scripts history old work (Scripts fault) read fails = absurd fails
leaves_history scripts history old work ScriptsRead read fails = absurd fails
leaves_history scripts history old work Write read fails = absurd fails

-- If the outcomes are right (`AreOutcomes`), their text is a report on the two files.
pub told : (scripts history : Option (List ℕ)) (work : Work) (entries read : List Entry) (found seen : List Outcome) (workers : ℕ) (text : List ℕ) (well : Bool)
    → OfFile scripts (λ bytes. scripts_of bytes ≡ Ok work) → OfFile history (HistoryOf entries) → read ≡ entries → AreOutcomes work.sizes.callers work.scripts read found
    → workers ≡ work.sizes.callers → seen ≡ found → text ≡ outcomes_text workers seen → ((well ≡ true) ↔ IsWell work.scripts found) → TellsOutcomes scripts history text well
told scripts history work entries read found seen workers text well first second same right callers all is well_is = (
  first.0,
  first.1,
  (
    second.0,
    second.1,
    record {
      work = work;
      stripes = second.2.0;
      entries = entries;
      version = second.2.1;
      found = found;
      scripts_are = first.2;
      history_is = second.2.2;
      outcomes = subst (λ es. AreOutcomes work.sizes.callers work.scripts es found) same right;
      text_is = is ∙ ap (λ k. outcomes_text k seen) callers ∙ ap (outcomes_text work.sizes.callers) all;
      well_is = well_is;
    },
  ),
)
