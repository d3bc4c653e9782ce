-- PROMISES buckets: IsSound, IsNearest
-- The buckets of a table as a contract sees them.
use Rattle.std.specs.Prelude.{◌≡◌, ℕ, ◌-◌, ◌^◌, ◌<◌, ◌≤◌, List, ◌∷◌, Option, Some, None, Bool, true, false, All, length, replicate, is_some, slice_index_or, slice_set}
use Rattle.std.specs.List.{slice_get}
use Rattle.split_key.specs.Split.{parent_of, ancestor_of, IsPowerOfTwo}
use Rattle.bucket_table.specs.declared.helper.Helper.{Helper}
use Rattle.bucket_table.specs.declared.helper.Helper.TheVariants.{Idle, Seeking, Holding}

-- The size, the place of each stored bucket's dummy, and each helper's state. The length of
-- `entries` is the largest size.
pub record Directory : Type 0 where
  pub size : ℕ
  pub entries : List (Option ℕ)
  pub helpers : List Helper

-- The largest size.
abbrev pub limit_of : Directory → ℕ
limit_of d = length d.entries

-- The place of a bucket's dummy, if the bucket is stored.
abbrev pub dummy_of : Directory → ℕ → Option ℕ
dummy_of d bucket = slice_index_or d.entries bucket None

-- Whether a bucket is stored, which means initialised.
abbrev pub is_stored : Directory → ℕ → Bool
is_stored d bucket = is_some (dummy_of d bucket)

-- The state of the helper with this number, if there is such a helper.
abbrev pub helper_of : Directory → ℕ → Option Helper
helper_of d helper = slice_get d.helpers helper

-- The buckets of a new table: the size is 2, only bucket 0 is stored, and every helper is idle.
abbrev pub beginning : ℕ → ℕ → ℕ → Directory
beginning limit helpers head = record {
  size = 2;
  entries = Some head ∷ replicate (limit - 1) None;
  helpers = replicate helpers Idle;
}

-- The buckets, with this helper in this state.
abbrev pub with_helper : Directory → ℕ → Helper → Directory
with_helper d helper now = record d { helpers = slice_set d.helpers helper now }

-- The buckets, with this bucket stored and its dummy at this place.
abbrev pub with_dummy : Directory → ℕ → ℕ → Directory
with_dummy d bucket place = record d { entries = slice_set d.entries bucket (Some place) }

-- The buckets with this size.
abbrev pub with_size : Directory → ℕ → Directory
with_size d size = record d { size = size }

-- The bucket may be stored: it is in the table, it is not bucket 0, and its parent is stored.
pub record MayBeStored (d : Directory) (bucket : ℕ) : Type 0 where
  pub within : bucket < d.size
  pub above : 0 < bucket
  pub parent : is_stored d (parent_of bucket) ≡ true

-- If the helper has a bucket, the bucket may be stored (`MayBeStored`).
abbrev pub IsReadyHelper : Directory → Helper → Type 0
IsReadyHelper d Idle = Unit {0}
IsReadyHelper d (Seeking bucket cursor) = MayBeStored d bucket
IsReadyHelper d (Holding bucket dummy) = MayBeStored d bucket

-- The size and the largest size are powers of two, and no bucket is stored before its parent.
pub record IsSound (d : Directory) : Type 0 where
  pub size : IsPowerOfTwo d.size
  pub limit : IsPowerOfTwo (limit_of d)
  pub least : 2 ≤ d.size
  pub most : d.size ≤ limit_of d
  pub fits : limit_of d < 2 ^ 32
  pub first : is_stored d 0 ≡ true
  pub within : (bucket : ℕ) → is_stored d bucket ≡ true → bucket < d.size
  pub parents : (bucket : ℕ) → 0 < bucket → is_stored d bucket ≡ true
      → is_stored d (parent_of bucket) ≡ true
  pub helpers : All (IsReadyHelper d) d.helpers

-- The dummy at this place belongs to the nearest stored bucket among this bucket, its parent, the
-- parent's parent and so on.
pub record IsNearest (d : Directory) (bucket place : ℕ) : Type 0 where
  pub steps : ℕ
  pub stored : dummy_of d (ancestor_of steps bucket) ≡ Some place
  pub nearer : (fewer : ℕ) → fewer < steps → is_stored d (ancestor_of fewer bucket) ≡ false
