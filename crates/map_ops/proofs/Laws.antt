-- Shows that an operation and then its job restore the content, because the job sets the key to its
-- old value, and that a spare stays the table's until it is spent. Higher layers use these lemmas.
use Rattle.std.proofs.Common.{◌≡◌, ◌≢◌, ℕ, inl, inr, Bool, true, false, cond, Option, Some, None, refl, sym, ap, subst, ◌∙◌}
use Rattle.std.specs.Prelude.{is_some, IfSome, nat_eq}
use Rattle.map_ops.specs.Vocabulary.{Get, Map, Op, Put, PutIf, SpareAt, Take, after, get, insert, option_eq, remove}
use Rattle.map_ops.specs.Vocabulary.{set_at}
use Rattle.map_ops.proofs.Vocabulary.{cases_eq, eq-eqb, false≢true, get-insert, get-remove, get-set_at, ne_eqb, same_map, some-injective}
use Rattle.map_ops.proofs.Vocabulary.{some-none}
use Rattle.txn_words.proofs.Maps.{get-insert-here, get-remove-here}
use Rattle.map_ops.specs.declared.job.MapJob.{MapJob}
use Rattle.map_ops.specs.declared.job.MapJob.TheVariants.{Unput, Restore, Relink}
use Rattle.node_list.specs.Nodes.{IsOut}
use Rattle.map_ops.specs.Lists.{KeepsOthers}
use Rattle.map_ops.specs.TableAt.{TableAt, content, KeepsSpares}
use Rattle.map_ops.specs.Jobs.{IsDue, job_of, key_of_job, relink, spare_of_job, unput, value_before}
use Rattle.txn_words.specs.Owed.{may_change}
use Rattle.map_ops.specs.Changes.{Applies, JobSpare, OwnsIf, ShowsAfter, ShowsBefore, TakesBack}
use Rattle.map_ops.proofs.RemoveLemmas.{remove-absent}

-- A spare still belongs to the table if the spares are unchanged.
pub still_owned : (old new : TableAt) (spare : SpareAt) → KeepsSpares old new → IsOut old.list spare → IsOut new.list spare
still_owned old new spare keeps owned = keeps spare.place ∙ owned

-- A spare still belongs to the table if another spare is given or spent.
pub other_owned : (old new : TableAt) (spare : SpareAt) (place : ℕ) → KeepsOthers old.list new.list place → spare.place ≢ place → IsOut old.list spare → IsOut new.list spare
other_owned old new spare place keeps other owned = keeps spare.place other ∙ owned

pub get-set_at-here : (m : Map) (k : ℕ) (value : Option ℕ) → get (set_at m k value) k ≡ value
get-set_at-here m k value = get-set_at m k value k ∙ ap (λ b. cond b value (get m k)) (eq-eqb k k refl)

-- After a change is taken back, its key has the value that it had before the change.
pub shows_before : (old new : TableAt) (job : MapJob) → TakesBack old new job → ShowsBefore job new
shows_before old new job back =
    ap (λ m. get m (key_of_job job)) back.content_is ∙ get-set_at-here (content old) (key_of_job job) (value_before job)

put_is_due : (m : Map) (k v : ℕ) (job : MapJob) (o : Option ℕ) → unput k o ≡ Some job → IsDue (insert m k v) job
put_is_due m k v job None same = subst (IsDue (insert m k v)) (some-injective same) (ap is_some (get-insert-here m k v))
put_is_due m k v job (Some old) same = subst (IsDue (insert m k v)) (some-injective same) (ap is_some (get-insert-here m k v))

-- If an operation has a job, `IsDue` holds for this job after the operation.
pub job_is_due : (m : Map) (op : Op) (spare : Option SpareAt) (job : MapJob) → job_of m op spare ≡ Some job → IsDue (after m op) job
job_is_due m (Put k v) spare job is = put_is_due m k v job (get m k) is
job_is_due m (Take k) spare job is = go (get m k) spare is
  where
    go : (o : Option ℕ) (s : Option SpareAt) → relink k o s ≡ Some job → IsDue (remove m k) job
    go None s same = absurd (some-none (sym same))
    go (Some old) None same = absurd (some-none (sym same))
    go (Some old) (Some s) same = subst (IsDue (remove m k)) (some-injective same) (get-remove-here m k)
job_is_due m (Get k) spare job is = absurd (some-none (sym is))
job_is_due m (PutIf k expected v) spare job is = go (option_eq nat_eq (get m k) expected) is
  where
    go : (b : Bool) → cond b (unput k (get m k)) None ≡ Some job → IsDue (cond b (insert m k v) m) job
    go true same = put_is_due m k v job (get m k) same
    go false same = absurd (some-none (sym same))

-- Writing or removing a key and then setting it to its old value restores the map.
set_at-insert : (m : Map) (k v : ℕ) (before : Option ℕ) → get m k ≡ before → set_at (insert m k v) k before ≡ m
set_at-insert m k v before is = same_map _ m (λ q. get-set_at (insert m k v) k before q ∙ elim (cases_eq q k) [
  | inl same ↦ ap (λ b. cond b before (get (insert m k v) q)) (eq-eqb q k same) ∙ sym is ∙ ap (get m) (sym same)
  | inr other ↦ ap (λ b. cond b before (get (insert m k v) q)) (ne_eqb q k other) ∙ get-insert m k v q ∙ ap (λ b. cond b (Some v) (get m q)) (ne_eqb q k other)
])

set_at-remove : (m : Map) (k : ℕ) (before : Option ℕ) → get m k ≡ before → set_at (remove m k) k before ≡ m
set_at-remove m k before is = same_map _ m (λ q. get-set_at (remove m k) k before q ∙ elim (cases_eq q k) [
  | inl same ↦ ap (λ b. cond b before (get (remove m k) q)) (eq-eqb q k same) ∙ sym is ∙ ap (get m) (sym same)
  | inr other ↦ ap (λ b. cond b before (get (remove m k) q)) (ne_eqb q k other) ∙ get-remove m k q ∙ ap (λ b. cond b None (get m q)) (ne_eqb q k other)
])

put_set_at : (m : Map) (k v : ℕ) (job : MapJob) (o : Option ℕ) → get m k ≡ o → unput k o ≡ Some job → set_at (insert m k v) (key_of_job job) (value_before job) ≡ m
put_set_at m k v job None was same = subst (λ j. set_at (insert m k v) (key_of_job j) (value_before j) ≡ m) (some-injective same) (set_at-insert m k v None was)
put_set_at m k v job (Some old) was same = subst (λ j. set_at (insert m k v) (key_of_job j) (value_before j) ≡ m) (some-injective same) (set_at-insert m k v (Some old) was)

pub set_at-after : (m : Map) (op : Op) (spare : Option SpareAt) (job : MapJob) → job_of m op spare ≡ Some job → set_at (after m op) (key_of_job job) (value_before job) ≡ m
set_at-after m (Put k v) spare job is = put_set_at m k v job (get m k) refl is
set_at-after m (Take k) spare job is = go (get m k) spare refl is
  where
    go : (o : Option ℕ) (s : Option SpareAt) → get m k ≡ o → relink k o s ≡ Some job → set_at (remove m k) (key_of_job job) (value_before job) ≡ m
    go None s was same = absurd (some-none (sym same))
    go (Some old) None was same = absurd (some-none (sym same))
    go (Some old) (Some s) was same = subst (λ j. set_at (remove m k) (key_of_job j) (value_before j) ≡ m) (some-injective same) (set_at-remove m k (Some old) was)
set_at-after m (Get k) spare job is = absurd (some-none (sym is))
set_at-after m (PutIf k expected v) spare job is = go (option_eq nat_eq (get m k) expected) is
  where
    go : (b : Bool) → cond b (unput k (get m k)) None ≡ Some job → set_at (cond b (insert m k v) m) (key_of_job job) (value_before job) ≡ m
    go true same = put_set_at m k v job (get m k) refl same
    go false same = absurd (some-none (sym same))

put_no_job : (m : Map) (k v : ℕ) (o : Option ℕ) → unput k o ≡ None → insert m k v ≡ m
put_no_job m k v None none = absurd (some-none none)
put_no_job m k v (Some old) none = absurd (some-none none)

-- An operation without a job leaves the map unchanged.
pub after-no_job : (m : Map) (op : Op) (spare : Option SpareAt) → is_some spare ≡ may_change op → job_of m op spare ≡ None → after m op ≡ m
after-no_job m (Put k v) spare given is = put_no_job m k v (get m k) is
after-no_job m (Take k) spare given is = go (get m k) spare refl given is
  where
    go : (o : Option ℕ) (s : Option SpareAt) → get m k ≡ o → is_some s ≡ true → relink k o s ≡ None → remove m k ≡ m
    go None s was there none = remove-absent m k was
    go (Some old) None was there none = absurd (false≢true there)
    go (Some old) (Some s) was there none = absurd (some-none none)
after-no_job m (Get k) spare given is = refl
after-no_job m (PutIf k expected v) spare given is = go (option_eq nat_eq (get m k) expected) is
  where
    go : (b : Bool) → cond b (unput k (get m k)) None ≡ None → cond b (insert m k v) m ≡ m
    go true none = put_no_job m k v (get m k) none
    go false none = refl

-- If `apply` does a change, `ShowsAfter` holds for the change's job afterwards.
pub shows_after : (old new : TableAt) (op : Op) (reply : Option ℕ) (job : MapJob) → Applies old new op reply (Some job) → ShowsAfter job new
shows_after old new op reply job applies =
    (subst (λ (m : Map). IsDue m job) (sym applies.content_is) (job_is_due (content old) op applies.spare job (sym applies.job_is)), owned job applies.spares)
  where
    owned : (job : MapJob) → JobSpare old new (Some job) → OwnsIf new (spare_of_job job)
    owned (Unput k) spares = tt
    owned (Restore k before) spares = tt
    owned (Relink k before spare) gives = gives.owned

-- If the change of an operation is taken back right after the operation, the content is the same as
-- before the operation.
pub content-there_and_back : (old mid new : TableAt) (op : Op) (reply : Option ℕ) (job : MapJob) → Applies old mid op reply (Some job) → TakesBack mid new job → content new ≡ content old
content-there_and_back old mid new op reply job applies back =
    back.content_is ∙ ap (λ (m : Map). set_at m (key_of_job job) (value_before job)) applies.content_is ∙ set_at-after (content old) op applies.spare job (sym applies.job_is)

-- An operation without a job leaves the content unchanged.
pub content-no_job : (old new : TableAt) (op : Op) (reply : Option ℕ) → Applies old new op reply None → content new ≡ content old
content-no_job old new op reply applies = applies.content_is ∙ after-no_job (content old) op applies.spare applies.spare_is (sym applies.job_is)

-- If `apply` does an operation that has a job, `ShowsAfter` holds for this job afterwards.
pub applied_shows_after : (old new : TableAt) (op : Op) (reply : Option ℕ) (job : Option MapJob) → Applies old new op reply job → IfSome job (λ j. ShowsAfter j new)
applied_shows_after old new op reply None applies = tt
applied_shows_after old new op reply (Some job) applies = shows_after old new op reply job applies
