-- The steps that a caller may take if its side fits the table.
use Rattle.std.proofs.Common.{◌≡◌, ℕ, ◌-◌, ◌<◌, ◌&&◌, Bool, true, false, List, [], ◌∷◌, ◌++◌, length, Option, Some, is_some, refl, sym, ap, subst, ◌∙◌, arith, slice_get, map, reverse, nat_lt, not, ltb-true}
use Rattle.boost_core.proofs.Vocabulary.{not-false, or_right, false≢true, slice_get-get_or, Phase, Waiting, LeavingTo, LeavingToEnd, MapJob, PendingAt, TableAt, Cursor, content, reverse-append, length_push, get_or_push, is_waiting, has_job, has_target, LogAt, kept_at, newest_above, Session, level_of, Waits, key_of_newest, target_in, target_of, change_of, changes_of, AreDue, IsSoughtAt, GoesWith, CanUndo}
use Rattle.txn_trace.proofs.StanceRuns.{the_some}
use Rattle.boost_core.proofs.Spares.{newest_owned}

pub record Last (jobs : List MapJob) : Type 0 where
  pub front : List MapJob
  pub job : MapJob
  pub is : jobs ≡ front ++ job ∷ []

pub last_job : (jobs : List MapJob) → 0 < length jobs → Last jobs
last_job [] some = absurd (omega arith)
last_job (job ∷ []) some = record { front = []; job = job; is = refl }
last_job (job ∷ next ∷ rest) some =
    let later = last_job (next ∷ rest) (omega arith) in
    record { front = job ∷ later.front; job = later.job; is = ap (λ js. job ∷ js) later.is }

pub at_last : (jobs front : List MapJob) (job : MapJob) → jobs ≡ front ++ job ∷ [] → slice_get jobs (length jobs - 1) ≡ Some job
at_last jobs front job is =
    ap (λ (js : List MapJob). slice_get js (length js - 1)) is
    ∙ slice_get-get_or (front ++ job ∷ []) (length (front ++ job ∷ []) - 1) job (omega (arith, length_push front job))
    ∙ ap Some (get_or_push front job job (length (front ++ job ∷ []) - 1) (omega (arith, length_push front job)))

-- If the log has a change above level `n`, the newest such change is the last job.
pub newest_is : (log : LogAt MapJob) (n : ℕ) → nat_lt (kept_at log.kept n) (length log.jobs) ≡ true → (last : Last log.jobs) × (newest_above log n ≡ Some last.job)
newest_is log n more =
    let last = last_job log.jobs (omega (arith, ltb-true (kept_at log.kept n) (length log.jobs) more)) in
    (last, rw more (at_last log.jobs last.front last.job last.is))

pub changes_last : (jobs front : List MapJob) (job : MapJob) → jobs ≡ front ++ job ∷ [] → changes_of jobs ≡ change_of job ∷ changes_of front
changes_last jobs front job is = ap changes_of is ∙ ap (map change_of) (reverse-append front (job ∷ []))

-- The waiting operation is the one that the phase names.
pub waiting_op : (q : Phase) (pending : PendingAt) (room : ℕ) → Waits q (Some pending) room → q ≡ Waiting pending.op
waiting_op (Waiting op) pending room is = ap Waiting (sym is.0)
waiting_op _ pending room is = absurd is

-- A phase in which the caller takes changes back, either down to a level or all of them.
abbrev pub IsGoing : Phase → Type 0
IsGoing (LeavingTo n) = Unit {0}
IsGoing LeavingToEnd = Unit {0}
IsGoing phase = ⊥

pub going : (q : Phase) (standing : ℕ) (kept : List ℕ) → has_job (record { phase = q; standing = standing; kept = 0 ∷ kept }) ≡ true → IsGoing q × (nat_lt (kept_at kept (level_of q)) standing ≡ true)
going (LeavingTo n) standing kept is = (tt, is)
going LeavingToEnd standing kept is = (tt, is)
going _ standing kept is = absurd (false≢true is)

going_target : (q : Phase) (log : LogAt MapJob) → IsGoing q → target_in q log ≡ key_of_newest (newest_above log (level_of q))
going_target (LeavingTo n) log is = refl
going_target LeavingToEnd log is = refl
going_target _ log is = absurd is

and_true : (a b : Bool) → (a && not b) ≡ false → a ≡ true → b ≡ true
and_true a b is both = not-false b (ap (λ v. v && not b) (sym both) ∙ is)

module _ (x : Session) (t : TableAt) (goes : GoesWith x t) where
  -- The stance has the same savepoints and the same number of standing changes as the log.
  pub stance_is : x.stance.stance ≡ record { phase = x.stance.stance.phase; standing = length x.log.jobs; kept = 0 ∷ x.log.kept }
  stance_is = λ i. record { phase = x.stance.stance.phase; standing = goes.agrees.standing i; kept = goes.agrees.kept i }

  module _ (placed : (has_target x.stance.stance && not (is_some x.cursor)) ≡ false) where
    cursor_there : has_target x.stance.stance ≡ true → (cursor : Cursor) × (x.cursor ≡ Some cursor)
    cursor_there target = the_some x.cursor (and_true (has_target x.stance.stance) (is_some x.cursor) placed target)

    -- If the caller's stance has a change to take back, the newest change can be taken back
    -- (`CanUndo`).
    pub can_undo : has_job x.stance.stance ≡ true → CanUndo x t
    can_undo has =
        let gone = going x.stance.stance.phase (length x.log.jobs) x.log.kept (ap has_job (sym stance_is) ∙ has) in
        let newest = newest_is x.log (level_of x.stance.stance.phase) gone.1 in
        let last = newest.0 in
        let cursor = cursor_there (or_right (is_waiting x.stance.stance.phase) (has_job x.stance.stance) has) in
        record {
          level = goes.agrees.level;
          job = last.job;
          cursor = cursor.0;
          newest = newest.1;
          had = cursor.1;
          placed = subst (IsSoughtAt t (Some cursor.0)) (going_target x.stance.stance.phase x.log gone.0 ∙ ap key_of_newest newest.1) (subst (λ (o : Option Cursor). IsSoughtAt t o (target_of x)) cursor.1 goes.sought);
          due = (subst (λ (js : List MapJob). AreDue (content t) js) (ap reverse last.is ∙ reverse-append last.front (last.job ∷ [])) goes.due).0;
          owned = newest_owned t x.log.jobs last.front last.job last.is goes.settles.0 goes.settles.1;
        }
