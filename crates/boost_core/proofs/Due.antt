-- The jobs of a caller stay due while others work on other keys.
use Rattle.std.proofs.Common.{◌≡◌, ℕ, ◌==◌, true, false, cond, List, [], ◌∷◌, ◌++◌, Option, Some, None, is_some, refl, sym, ap, subst, ◌∙◌, IsSome, map, reverse, option_to_list, nat_eq, eq-eqb, ne_eqb, append-nil, inl, inr}
use Rattle.boost_core.proofs.Vocabulary.{may_change, option_eq, AllByRecursion, cases_Bool, cases_eq, reverse-append, SpareAt, Op, Put, Take, Get, PutIf, MapJob, Relink, Map, get, key_of, reply_of, after, set_at, changes, same_map, get-insert-here, get-remove-here, get-set_at, after_unchanged, get-after_other, changes-reply, key_of_job, value_before, IsDue, unput, relink, job_of, change_of, changes_of, AreDue}

-- The property `P` holds for the key of every job.
abbrev pub AllOf : (ℕ → Type 0) → List MapJob → Type 0
AllOf P jobs = AllByRecursion (λ (job : MapJob). P (key_of_job job)) jobs

pub all_of_changes : (P : ℕ → Type 0) (jobs : List MapJob) → AllByRecursion (λ (change : ℕ × Option ℕ). P change.0) (map change_of jobs) → AllOf P jobs
all_of_changes P [] all = tt
all_of_changes P (job ∷ jobs) all = (all.0, all_of_changes P jobs all.1)

is_due_same : (m m' : Map) (job : MapJob) → get m' (key_of_job job) ≡ get m (key_of_job job) → IsDue m job → IsDue m' job
is_due_same m m' (Relink k old spare) same due = same ∙ due
is_due_same m m' _ same due = subst (λ o. IsSome o) (sym same) due

set_at_same : (m m' : Map) (j : ℕ) (o : Option ℕ) (k : ℕ) → get m' k ≡ get m k → get (set_at m' j o) k ≡ get (set_at m j o) k
set_at_same m m' j o k same = get-set_at m' j o k ∙ ap (cond (k == j) o) same ∙ sym (get-set_at m j o k)

-- Jobs stay due if the values of their keys are unchanged.
pub due_same : (P : ℕ → Type 0) (m m' : Map) (jobs : List MapJob) → ((k : ℕ) → P k → get m' k ≡ get m k) → AllOf P jobs → AreDue m jobs → AreDue m' jobs
due_same P m m' [] same all due = tt
due_same P m m' (job ∷ jobs) same all due = (
  is_due_same m m' job (same (key_of_job job) all.0) due.0,
  due_same P (set_at m (key_of_job job) (value_before job)) (set_at m' (key_of_job job) (value_before job)) jobs (λ k passes. set_at_same m m' (key_of_job job) (value_before job) k (same k passes)) all.1 due.1,
)

-- If the key of an operation is set back to the value that it had before the operation, the map is
-- the same as before the operation.
pub set_at-after : (m : Map) (op : Op) → set_at (after m op) (key_of op) (reply_of m op) ≡ m
set_at-after m op = same_map (set_at (after m op) (key_of op) (reply_of m op)) m (λ q. get-set_at (after m op) (key_of op) (reply_of m op) q ∙ elim (cases_eq q (key_of op)) [
  | inl same ↦ ap (λ b. cond b (reply_of m op) (get (after m op) q)) (eq-eqb q (key_of op) same) ∙ ap (get m) (sym same)
  | inr other ↦ ap (λ b. cond b (reply_of m op) (get (after m op) q)) (ne_eqb q (key_of op) other) ∙ get-after_other m op q other
])

-- The operation is a change, and `job` is its job: the job has the operation's key and the value
-- that the key had before the operation, and it is due after the operation.
pub record Noted (m : Map) (op : Op) (spare : Option SpareAt) (job : MapJob) : Type 0 where
  pub change : change_of job ≡ (key_of op, reply_of m op)
  pub is_change : changes op (reply_of m op) ≡ true
  pub due : IsDue (after m op) job

-- If there is a job, it is the job of this operation (`Noted`). If there is none, the operation is
-- not a change.
abbrev pub NotedIf : Map → Op → Option SpareAt → Option MapJob → Type 0
NotedIf m op spare None = changes op (reply_of m op) ≡ false
NotedIf m op spare (Some job) = Noted m op spare job

put_if_due : (m : Map) (k : ℕ) (expected : Option ℕ) (v : ℕ) → option_eq nat_eq (get m k) expected ≡ true → IsSome (get (after m (PutIf k expected v)) k)
put_if_due m k expected v made = rw (made, get-insert-here m k v) refl

put_noted : (m : Map) (k v : ℕ) (spare : Option SpareAt) (o : Option ℕ) → get m k ≡ o → NotedIf m (Put k v) spare (unput k o)
put_noted m k v spare None is = record { change = rw is refl; is_change = refl; due = rw (get-insert-here m k v) refl }
put_noted m k v spare (Some old) is = record { change = rw is refl; is_change = refl; due = rw (get-insert-here m k v) refl }

take_noted : (m : Map) (k : ℕ) (spare : Option SpareAt) (o : Option ℕ) → get m k ≡ o → is_some spare ≡ true → NotedIf m (Take k) spare (relink k o spare)
take_noted m k None o is there = absurd (cc (there))
take_noted m k (Some spare) None is there = ap is_some is
take_noted m k (Some spare) (Some old) is there = record { change = ap (λ (o : Option ℕ). (k, o)) (sym is); is_change = ap is_some is; due = get-remove-here m k }

put_if_noted : (m : Map) (k : ℕ) (expected : Option ℕ) (v : ℕ) (spare : Option SpareAt) → option_eq nat_eq (get m k) expected ≡ true → (o : Option ℕ) → get m k ≡ o → NotedIf m (PutIf k expected v) spare (unput k o)
put_if_noted m k expected v spare made None is = record { change = rw is refl; is_change = made; due = put_if_due m k expected v made }
put_if_noted m k expected v spare made (Some old) is = record { change = rw is refl; is_change = made; due = put_if_due m k expected v made }

pub noted : (m : Map) (op : Op) (spare : Option SpareAt) → is_some spare ≡ may_change op → NotedIf m op spare (job_of m op spare)
noted m (Put k v) spare there = put_noted m k v spare (get m k) refl
noted m (Take k) spare there = take_noted m k spare (get m k) refl there
noted m (Get k) spare there = refl
noted m (PutIf k expected v) spare there = elim (cases_Bool (option_eq nat_eq (get m k) expected)) [
  | inl made ↦ rw made (put_if_noted m k expected v spare made (get m k) refl)
  | inr same ↦ rw same same
]

-- An operation that is a change adds one change to the caller's log. Any other operation leaves the
-- changes of the log as they are.
pub changes_noted : (m : Map) (op : Op) (spare : Option SpareAt) (jobs : List MapJob) (job : Option MapJob) → NotedIf m op spare job
    → cond (changes op (reply_of m op)) ((key_of op, reply_of m op) ∷ changes_of jobs) (changes_of jobs) ≡ changes_of (jobs ++ option_to_list job)
changes_noted m op spare jobs None is = ap (λ b. cond b ((key_of op, reply_of m op) ∷ changes_of jobs) (changes_of jobs)) is ∙ ap changes_of (sym (append-nil jobs))
changes_noted m op spare jobs (Some job) is =
    ap (λ b. cond b ((key_of op, reply_of m op) ∷ changes_of jobs) (changes_of jobs)) is.is_change ∙ ap (λ (change : ℕ × Option ℕ). change ∷ changes_of jobs) (sym is.change)
    ∙ ap (map change_of) (sym (reverse-append jobs (job ∷ [])))

-- After an operation, its job is due. After this job has run, the jobs that were due before the
-- operation are due again.
pub due_noted : (m : Map) (op : Op) (spare : Option SpareAt) (jobs : List MapJob) (job : Option MapJob) → NotedIf m op spare job → AreDue m (reverse jobs) → AreDue (after m op) (reverse (jobs ++ option_to_list job))
due_noted m op spare jobs None is due = rw (append-nil jobs, after_unchanged m op (sym (changes-reply m op) ∙ is)) due
due_noted m op spare jobs (Some job) is due =
    subst (λ (js : List MapJob). AreDue (after m op) js) (sym (reverse-append jobs (job ∷ [])))
    (is.due, subst (λ n. AreDue n (reverse jobs)) (sym (set_at-after m op) ∙ ap (λ (change : ℕ × Option ℕ). set_at (after m op) change.0 change.1) (sym is.change)) due)
