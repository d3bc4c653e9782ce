-- Shows that a worker keeps to its scripts after each answer, because its call's entries are those
-- of the drive's end, and lead to the next chunk or to the script's account.
use Rattle.std.proofs.Common.{ℕ, ◌<◌, List, [], ◌∷◌, ◌++◌, length, slice_get, Option, Some, None, refl, sym, ap, ◌∙◌, arith, ◌≡◌, ◌+◌, ◌*◌}
use Rattle.std.proofs.Common.{nat_lt, Bool, true, false, if◌then◌else◌, append_assoc, append-nil, get_or, subst, inl, inr, ltb-true}
use Rattle.script_worker.proofs.Vocabulary.{Action, Answer, append_quiet, AreAccounts, Attempt, attempt_at, Beginning, Call, call_at}
use Rattle.script_worker.proofs.Vocabulary.{CommitNothing, Drive, drive_told, End, end_of, entries_of, Entry, every, followed, goes_on}
use Rattle.script_worker.proofs.Vocabulary.{going_quiet, Heard, heard_at, IsChunk, IsMade, IsQuiet, IsReady, IsReadyTask, KeepsScripts, KeepsAt}
use Rattle.script_worker.proofs.Vocabulary.{KeepsTask, length_push, made, made-new, made-sized, made-told_of, made_at_end, made_quiet}
use Rattle.script_worker.proofs.Vocabulary.{new_drive, new_worker, Next, Outcome, outcome_by, OutOfStep, Over, Progress, progressed}
use Rattle.script_worker.proofs.Vocabulary.{replies_then, settled, settled_in, sized_by, sized_of, Sizes, slice_get-get_or, Standing}
use Rattle.script_worker.proofs.Vocabulary.{started, Step, step_by, step_of, Task, task_step, told_by, told_drive, told_of, tolds_of}
use Rattle.script_worker.proofs.Vocabulary.{txn_then, with_drive}
use Rattle.script_worker.proofs.Chunks.{chunk_quiet, ChunkAfter, after_call, chunk_begun}
use Rattle.script_worker.proofs.{Accounts.account_more, Accounts.no_account, Every.get-every, Ready.steps_ended}

-- If a drive has ended with `OutOfStep`, its call has committed nothing.
ended_quiet : (d : Drive) (outcome : End) → end_of d ≡ Some outcome → IsQuiet outcome (made d)
ended_quiet d (End.Refused OutOfStep) is = elim (made_quiet d) [
  | inl quiet ↦ quiet
  | inr (p, committed) ↦ absurd (cc (is, committed))
]
ended_quiet d outcome is = tt

-- If a worker starts its next script, or has none left, it keeps to its scripts.
module _ (tries workers : ℕ) (half : Bool) (scripts : List (List Action)) (w : ℕ) where
  keeps_started : (outcomes : List Outcome) (n : ℕ) (seen : List Entry) → n ≡ w + length outcomes * workers → AreAccounts w tries (tolds_of (every workers w scripts) outcomes) seen
      → KeepsAt tries workers scripts w (started half scripts w n) seen
  keeps_started outcomes n seen number told = at (nat_lt n (length scripts)) refl
    where
      at : (b : Bool) → nat_lt n (length scripts) ≡ b → KeepsAt tries workers scripts w (if b then Some (record { script = n; attempt = attempt_at 0 Beginning; drive = new_drive half w Call.Begin }) else None) seen
      at true is = record {
        outcomes = outcomes;
        number = number;
        script = get_or scripts n [];
        there = slice_get-get_or scripts n [] (ltb-true n (length scripts) is);
        caller = refl;
        call = refl;
        earlier = seen;
        chunk = [];
        entries = sym (append-nil seen);
        told = told;
        txn = 0;
        replies = [];
        so_far = chunk_begun w (get_or scripts n []);
      }
      at false is = (outcomes, told)

  -- A task gets another attempt and another drive. It keeps to its scripts if the entries of its
  -- present script are a chunk of the new attempt, followed by the entries of the new drive.
  moved_to : (task : Task) (attempt : Attempt) (drive : Drive) (txn : ℕ) (replies : List (Option ℕ)) (chunk seen later : List Entry)
      → (at : KeepsTask tries workers scripts w task seen) → drive.caller ≡ w → drive.call ≡ call_at at.script attempt.stage
      → later ≡ at.earlier ++ (chunk ++ made drive) → IsChunk w at.script (heard_at attempt txn replies) chunk
      → KeepsTask tries workers scripts w (record { script = task.script; attempt = attempt; drive = drive }) later
  moved_to task attempt drive txn replies chunk seen later at caller call entries so_far = record {
    outcomes = at.outcomes;
    number = at.number;
    script = at.script;
    there = at.there;
    caller = caller;
    call = call;
    earlier = at.earlier;
    chunk = chunk;
    entries = entries;
    told = at.told;
    txn = txn;
    replies = replies;
    so_far = so_far;
  }

  -- If a task keeps to its scripts, it still does after its drive is given an answer, and after its
  -- drive notes the table's size.
  drive_keeps : (task : Option Task) (step : Step) (answer : Answer) (seen : List Entry) → task_step task ≡ Some step → KeepsAt tries workers scripts w task seen
      → KeepsAt tries workers scripts w (drive_told task answer) (seen ++ entries_of step answer)
  drive_keeps None step answer seen is at = absurd (cc is)
  drive_keeps (Some task) step answer seen is at =
      moved_to task task.attempt (told_of task.drive answer) at.txn at.replies at.chunk seen
      (seen ++ entries_of step answer) at at.caller at.call
      (rw (at.entries, made-told_of task.drive step answer is) (simp append_assoc)) at.so_far

  task_sized : (size : ℕ) (task : Option Task) (seen : List Entry) → KeepsAt tries workers scripts w task seen → KeepsAt tries workers scripts w (with_drive (sized_of size) task) seen
  task_sized size None seen at = at
  task_sized size (Some task) seen at =
      moved_to task task.attempt (sized_of size task.drive) at.txn at.replies at.chunk seen seen at at.caller at.call
      (rw (made-sized size task.drive.caller task.drive.call task.drive.phase) at.entries) at.so_far

-- The next lemmas are about a task whose call has ended.
module _ (scripts : List (List Action)) (tries w : ℕ) (limits : Sizes) (below : w < limits.callers) (task : Task) (outcome : End) (seen : List Entry) (ended : end_of task.drive ≡ Some outcome)
    (at : KeepsTask tries limits.callers scripts w task seen) where
  abbrev heard : Heard
  heard = heard_at task.attempt at.txn at.replies

  made_is : IsMade w (call_at at.script task.attempt.stage) outcome (made task.drive)
  made_is = subst (λ c. IsMade c (call_at at.script task.attempt.stage) outcome (made task.drive)) at.caller
      (subst (λ (call : Call). IsMade task.drive.caller call outcome (made task.drive)) at.call (made_at_end task.drive outcome ended))

  follows : (p : Progress) → ChunkAfter w tries at.script heard (at.chunk ++ made task.drive) outcome p
      → KeepsAt tries limits.callers scripts w (followed scripts w limits task at.script p) seen
  follows (Next attempt) chunk =
      moved_to tries limits.callers limits.half scripts w task attempt (new_drive limits.half w (call_at at.script attempt.stage))
      (txn_then at.txn outcome) (replies_then at.replies outcome) (at.chunk ++ made task.drive) seen seen at refl refl
      (rw (made-new limits.half w (call_at at.script attempt.stage), append-nil (at.chunk ++ made task.drive)) at.entries) chunk
  follows (Over over) account =
      let told = outcome_by over outcome heard in
      let some : 0 < limits.callers = omega (arith, below) in
      let here = get-every limits.callers some scripts w (length at.outcomes) ∙ ap (slice_get scripts) (sym at.number) ∙ at.there in
      keeps_started tries limits.callers limits.half scripts w (at.outcomes ++ told ∷ []) (task.script + limits.callers) seen
      (rw (length_push at.outcomes told) (omega (arith, at.number)))
      (rw at.entries (account_more w tries (every limits.callers w scripts) at.outcomes at.script told at.earlier
      (at.chunk ++ made task.drive) here at.told account))

  progressed_keeps : KeepsAt tries limits.callers scripts w (progressed scripts tries w limits task outcome) seen
  progressed_keeps =
      let quiet = ended_quiet task.drive outcome ended in
      rw at.there (follows _ (after_call w tries at.script heard at.chunk (made task.drive) outcome _ made_is quiet at.so_far refl))

-- If a task keeps to its scripts, it still does after it is settled.
module _ (scripts : List (List Action)) (tries w : ℕ) (limits : Sizes) (below : w < limits.callers) (seen : List Entry) where
  settled_in_keeps : (task : Task) (o : Option End) → end_of task.drive ≡ o → KeepsTask tries limits.callers scripts w task seen → KeepsAt tries limits.callers scripts w (settled_in scripts tries w limits task o) seen
  settled_in_keeps task None ended at = at
  settled_in_keeps task (Some outcome) ended at = progressed_keeps scripts tries w limits below task outcome seen ended at

  settled_keeps : (task : Option Task) → KeepsAt tries limits.callers scripts w task seen → KeepsAt tries limits.callers scripts w (settled scripts tries w limits task) seen
  settled_keeps None at = at
  settled_keeps (Some task) at = settled_in_keeps task (end_of task.drive) refl at

-- If a worker keeps to its scripts, it still does after it is given an answer.
pub told_keeps : (scripts : List (List Action)) (tries : ℕ) (worker : Standing) (answer : Answer) (seen : List Entry) (step : Step) → step_by worker ≡ Some step → KeepsScripts scripts tries worker seen
    → KeepsScripts scripts tries (told_by scripts tries worker answer) (seen ++ entries_of step answer)
told_keeps scripts tries worker answer seen step is keeps =
    let settles = settled_keeps scripts tries worker.number worker.limits keeps.number (seen ++ entries_of step answer) in
    let told = drive_keeps tries worker.limits.callers worker.limits.half scripts worker.number worker.task step answer seen is keeps.at in
    record { number = keeps.number; at = settles _ (settles _ told) }

pub sized_keeps : (size : ℕ) (scripts : List (List Action)) (tries : ℕ) (worker : Standing) (seen : List Entry) → KeepsScripts scripts tries worker seen → KeepsScripts scripts tries (sized_by size worker) seen
sized_keeps size scripts tries worker seen keeps = record { number = keeps.number; at = task_sized tries worker.limits.callers worker.limits.half scripts worker.number size worker.task seen keeps.at }

pub new_keeps : (scripts : List (List Action)) (tries w : ℕ) (limits : Sizes) → w < limits.callers → KeepsScripts scripts tries (new_worker scripts w limits) []
new_keeps scripts tries w limits below =
    let first : w ≡ w + 0 * limits.callers = omega arith in
    record { number = below; at = keeps_started tries limits.callers limits.half scripts w [] w [] first (no_account w tries (every limits.callers w scripts)) }

-- If a task has a step to take, settling does not change the task.
stays : (scripts : List (List Action)) (tries w : ℕ) (limits : Sizes) (step : Step) (task : Option Task) → task_step task ≡ Some step → settled scripts tries w limits task ≡ task
stays scripts tries w limits step None is = refl
stays scripts tries w limits step (Some task) is = ap (settled_in scripts tries w limits task) (goes_on task.drive step is)

pub told_on : (scripts : List (List Action)) (tries : ℕ) (worker : Standing) (answer : Answer) (step : Step) → step_by (told_drive worker answer) ≡ Some step → told_by scripts tries worker answer ≡ told_drive worker answer
told_on scripts tries worker answer step is =
    let once = stays scripts tries worker.number worker.limits step (drive_told worker.task answer) is in
    rw (once, once)

-- The entries of a worker are the accounts of its scripts. If its present script is not over, the
-- script's entries commit nothing, so they are the account of a script with the outcome `Aborted`.
module _ (tries workers : ℕ) (scripts : List (List Action)) (w : ℕ) (below : w < workers) where
  at_told : (task : Option Task) (seen : List Entry) → IsReadyTask task → KeepsAt tries workers scripts w task seen
      → (outcomes : List Outcome) × AreAccounts w tries (tolds_of (every workers w scripts) outcomes) seen
  at_told None seen ready at = at
  at_told (Some task) seen ready at =
      let some : 0 < workers = omega (arith, below) in
      let here = get-every workers some scripts w (length at.outcomes) ∙ ap (slice_get scripts) (sym at.number) ∙ at.there in
      let quiet : CommitNothing (at.chunk ++ made task.drive) = append_quiet at.chunk (made task.drive)
      (chunk_quiet w at.script (heard_at task.attempt at.txn at.replies) at.chunk at.so_far)
      (going_quiet task.drive (steps_ended (step_of task.drive) task.drive refl ready)) in
      let account = account_more w tries (every workers w scripts) at.outcomes at.script Outcome.Aborted at.earlier
      (at.chunk ++ made task.drive) here at.told quiet in
      (at.outcomes ++ Outcome.Aborted ∷ [], rw at.entries account)

pub keeps_told : (scripts : List (List Action)) (tries : ℕ) (worker : Standing) (seen : List Entry) → IsReady worker → KeepsScripts scripts tries worker seen
    → (outcomes : List Outcome) × AreAccounts worker.number tries (tolds_of (every worker.limits.callers worker.number scripts) outcomes) seen
keeps_told scripts tries worker seen ready keeps = at_told tries worker.limits.callers scripts worker.number keeps.number worker.task seen ready keeps.at
