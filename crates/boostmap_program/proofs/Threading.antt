-- The text of a run's history satisfies `IsThreadedOf` for the file's bytes.
use Rattle.std.proofs.Common.{◌≡◌, ℕ, ◌≤◌, Bool, true, false, ◌&&◌, nat_le, refl, List, [], ◌∷◌, Option, Result, Ok, Err, ap, subst, sym, ◌∙◌, if◌then◌else◌}
use Rattle.std.specs.List.{list_all}
use Rattle.std.proofs.lemmas.Bool.{leb-true}
use Rattle.txn_words.specs.declared.action.Action.{Action}
use Rattle.txn_words.specs.declared.entry.Entry.{Entry}
use Rattle.txn_words.specs.Sizes.{Sizes}
use Rattle.txn_words.specs.Work.{Work}
use Rattle.piece_files.specs.declared.file_fault.FileFault.{FileFault}
use Rattle.piece_files.specs.declared.file_fault.FileFault.TheVariants.{Limit}
use Rattle.piece_files.specs.Faults.{◌>>=◌}
use Rattle.piece_files.specs.Files.{contents}
use Rattle.txn_files.specs.HistoryText.{text_of_history}
use Rattle.txn_files.specs.ScriptFile.{scripts_of, script_file, work_from, are_scripts, is_short}
use Rattle.txn_files.specs.StepFile.{sizes_at}
use Rattle.thread_runs.specs.Runs.{HasRunScripts, Outcome}
use Rattle.boostmap_engine.specs.Report.{line}
use Rattle.boostmap_engine.specs.declared.fault.Fault.{Fault}
use Rattle.boostmap_engine.specs.declared.fault.Fault.TheVariants as faults
use Rattle.boostmap_engine.specs.Written.{IsRead, LeavesText}
use Rattle.boostmap_program.specs.Threaded.{IsThreadedOf, LeavesThreaded}

-- If a run has the limits, workers, tries, stripes and scripts of a file's work, the line of its
-- history satisfies `IsThreadedOf` for the file.
pub threaded_is : (bytes : List ℕ) (work : Work) (limits : Sizes) (workers tries stripes : ℕ) (scripts : List (List Action)) (outcomes : List Outcome) (trace : List Entry) → scripts_of bytes ≡ Ok work
    → limits ≡ work.sizes → workers ≡ limits.callers → tries ≡ work.tries → stripes ≡ limits.stripes → scripts ≡ work.scripts
    → HasRunScripts limits workers tries scripts outcomes trace → IsThreadedOf bytes (line (text_of_history 3 stripes trace))
threaded_is bytes work limits workers tries stripes scripts outcomes trace file limits_is workers_is tries_is stripes_is scripts_is run =
    let callers : workers ≡ work.sizes.callers = workers_is ∙ ap (λ (s : Sizes). s.callers) limits_is in (
      work,
      file,
      record {
        outcomes = outcomes;
        trace = trace;
        run = subst (λ s. HasRunScripts work.sizes work.sizes.callers work.tries s outcomes trace) scripts_is
            (subst (λ n. HasRunScripts work.sizes work.sizes.callers n scripts outcomes trace) tries_is
            (subst (λ n. HasRunScripts work.sizes n tries scripts outcomes trace) callers
            (subst (λ (s : Sizes). HasRunScripts s workers tries scripts outcomes trace) limits_is run)));
        whole = ap (λ n. line (text_of_history 3 n trace)) (stripes_is ∙ ap (λ (s : Sizes). s.stripes) limits_is);
      },
    )

and_left : (a b : Bool) → (a && b) ≡ true → a ≡ true
and_left true b is = refl
and_left false b is = is

in_range : (b : Bool) (tries : ℕ) (made work : Work) → (b ≡ true → tries ≤ 1000) → made.tries ≡ tries → (if b then Ok made else Err Limit) ≡ Ok work → work.tries ≤ 1000
in_range false tries made work small tries_is is = absurd (cc is)
in_range true tries made work small tries_is is =
    let same : made ≡ work = cc is in
    subst (λ n. n ≤ 1000) (sym tries_is ∙ ap (λ (w : Work). w.tries) same) (small refl)

few_with : (sizes : Result Sizes FileFault) (version tries : ℕ) (scripts : List (List Action)) (work : Work)
    → (sizes >>= λ s. if are_scripts tries scripts then Ok (record { version = version; sizes = s; tries = tries; scripts = scripts }) else Err Limit) ≡ Ok work → work.tries ≤ 1000
few_with (Err fault) version tries scripts work is = absurd (cc is)
few_with (Ok s) version tries scripts work is =
    in_range (are_scripts tries scripts) tries (record { version = version; sizes = s; tries = tries; scripts = scripts }) work
    (λ yes. leb-true tries 1000 (and_left (nat_le tries 1000) (list_all is_short scripts) yes)) refl is

few_from : (version : ℕ) (numbers : List ℕ) (scripts : List (List Action)) (work : Work) → work_from version numbers scripts ≡ Ok work → work.tries ≤ 1000
unfolding work_from
few_from version (workers ∷ stripes ∷ buckets ∷ tries ∷ []) scripts work is = few_with (sizes_at version workers stripes buckets) version tries scripts work is
few_from version [] scripts work is = absurd (cc is)
few_from version (workers ∷ []) scripts work is = absurd (cc is)
few_from version (workers ∷ stripes ∷ []) scripts work is = absurd (cc is)
few_from version (workers ∷ stripes ∷ buckets ∷ []) scripts work is = absurd (cc is)
few_from version (workers ∷ stripes ∷ buckets ∷ tries ∷ more ∷ others) scripts work is = absurd (cc is)

few_in : (file : Result (ℕ × List ℕ × List (List Action)) FileFault) (work : Work) → (file >>= λ f. work_from f.0 f.1 f.2) ≡ Ok work → work.tries ≤ 1000
few_in (Err fault) work is = absurd (cc is)
few_in (Ok f) work is = few_from f.0 f.1 f.2 work is

-- A script file asks for at most 1,000 tries.
pub few_tries : (bytes : List ℕ) (work : Work) → scripts_of bytes ≡ Ok work → work.tries ≤ 1000
few_tries bytes work is = few_in (contents script_file bytes) work is

-- If a fault occurs while the text of a run's history is written, the output is as `LeavesThreaded`
-- says.
pub leaves_threaded : (remaining old new : Option (List ℕ)) (bytes text : List ℕ) → IsRead remaining bytes → IsThreadedOf bytes text → (fault : Fault) → LeavesText old new text fault → LeavesThreaded remaining old new fault
leaves_threaded remaining old new bytes text read is faults.Write h = (bytes, text, read, is, h)
leaves_threaded remaining old new bytes text read is faults.NoMemory h = h
leaves_threaded remaining old new bytes text read is (faults.Input fault) h = absurd h
leaves_threaded remaining old new bytes text read is faults.Usage h = absurd h
leaves_threaded remaining old new bytes text read is faults.NoThread h = absurd h
leaves_threaded remaining old new bytes text read is faults.Read h = absurd h
leaves_threaded remaining old new bytes text read is faults.OutOfStep h = absurd h
