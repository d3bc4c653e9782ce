-- Operations that are prepared, and the jobs that take changes back.
use Rattle.std.specs.Prelude.{◌≡◌, ℕ, Bool, true, false, IsSome, Option, Some, None, nat_eq, if◌then◌else◌}
use Rattle.map_ops.specs.Vocabulary.{Get, Map, Op, Put, PutIf, SpareAt, Take, get, option_eq}
use Rattle.map_ops.specs.declared.job.MapJob.{MapJob}
use Rattle.map_ops.specs.declared.job.MapJob.TheVariants.{Unput, Restore, Relink}

-- An operation, and the spare that it owns, if it owns one.
pub record PendingAt : Type 0 where
  pub op : Op
  pub spare : Option SpareAt

-- The key of a job.
abbrev pub key_of_job : MapJob → ℕ
key_of_job (Unput k) = k
key_of_job (Restore k old) = k
key_of_job (Relink k old spare) = k

-- The value that the job's key had before the change, or `None` if it had no value.
abbrev pub value_before : MapJob → Option ℕ
value_before (Unput k) = None
value_before (Restore k old) = Some old
value_before (Relink k old spare) = Some old

-- The spare that a job owns, if it owns one.
abbrev pub spare_of_job : MapJob → Option SpareAt
spare_of_job (Unput k) = None
spare_of_job (Restore k old) = None
spare_of_job (Relink k old spare) = Some spare

-- At the job's key, the map is as the job's change left it: a key that was put is present, and a
-- key that was taken is absent.
abbrev pub IsDue : Map → MapJob → Type 0
IsDue m (Unput k) = IsSome (get m k)
IsDue m (Restore k old) = IsSome (get m k)
IsDue m (Relink k old spare) = get m k ≡ None

-- The job that undoes a take. The arguments are the key, the value that was taken, if there was
-- one, and the spare. If one of the last two is missing, there is no job.
abbrev pub relink : ℕ → Option ℕ → Option SpareAt → Option MapJob
relink k (Some old) (Some spare) = Some (Relink k old spare)
relink k (Some old) None = None
relink k None spare = None

-- The job that undoes a put, given the key and the value that the key had before, if it had one.
abbrev pub unput : ℕ → Option ℕ → Option MapJob
unput k None = Some (Unput k)
unput k (Some old) = Some (Restore k old)

-- The job of an operation that has this spare and is done on this map. There is a job exactly if
-- the operation is a change.
abbrev pub job_of : Map → Op → Option SpareAt → Option MapJob
job_of m (Put k v) spare = unput k (get m k)
job_of m (Take k) spare = relink k (get m k) spare
job_of m (Get k) spare = None
job_of m (PutIf k expected v) spare =
    if option_eq nat_eq (get m k) expected then unput k (get m k) else None
