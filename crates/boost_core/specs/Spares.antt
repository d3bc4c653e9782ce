-- How often a spare is kept, by a waiting operation or by jobs, and whether the table has given it
-- out.
use Rattle.std.specs.Prelude.{ℕ, ◌+◌, ◌≡◌, ◌==◌, ◌&&◌, nat_eq, List, Option, Some, None, sum_by, if◌then◌else◌}
use Rattle.boost_core.specs.Vocabulary.{option_eq, MapJob, spare_of_job, TableAt, SpareAt, spare_out}

abbrev pub times_of : Option SpareAt → ℕ → ℕ → ℕ
times_of None place stamp = 0
times_of (Some spare) place stamp = if spare.place == place && spare.stamp == stamp then 1 else 0

-- How many jobs of the list own the spare with this place and stamp.
abbrev pub times_in : List MapJob → ℕ → ℕ → ℕ
times_in jobs place stamp = sum_by (λ job. times_of (spare_of_job job) place stamp) jobs

-- 1 if the table has given out the spare with this place and stamp, else 0.
abbrev pub times_out : TableAt → ℕ → ℕ → ℕ
times_out t place stamp = if option_eq nat_eq (spare_out t place) (Some stamp) then 1 else 0

-- Each spare that the table has given out is kept exactly once, and no other spare is kept. So each
-- kept spare belongs to the table, and none is lost.
abbrev pub IsCovered : (ℕ → ℕ → ℕ) → TableAt → Type 0
IsCovered kept t = (place stamp : ℕ) → kept place stamp ≡ times_out t place stamp

-- `IsCovered` for the spares that one caller keeps (`kept`) and those that the others keep
-- (`others`), taken together.
abbrev pub IsCoveredWith : (ℕ → ℕ → ℕ) → (ℕ → ℕ → ℕ) → TableAt → Type 0
IsCoveredWith others kept t = IsCovered (λ place stamp. others place stamp + kept place stamp) t

-- If, before a change, the kept spares are exactly those that the table has given out, the same
-- holds after the change. It does not matter which spares the others keep.
abbrev pub StaysCovered : TableAt → (ℕ → ℕ → ℕ) → TableAt → (ℕ → ℕ → ℕ) → Type 0
StaysCovered t kept t' kept' =
    (others : ℕ → ℕ → ℕ) → IsCoveredWith others kept t → IsCoveredWith others kept' t'
