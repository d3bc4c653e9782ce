-- The limits of a map, as numbers.
use Rattle.std.specs.Prelude.{ℕ, ◌^◌, Bool, false, ◌&&◌, nat_le, Result, Ok, Err, if◌then◌else◌}
use Rattle.std.specs.Int.{is_power_of_two}
use Rattle.txn_words.specs.declared.refusal.Refusal.{Refusal}
use Rattle.txn_words.specs.declared.refusal.Refusal.TheVariants.{Limit}

-- How many callers and how many stripes a map has, how many buckets its table may have at most, and
-- whether the map allows only half keys, which are below 2^63.
pub record Sizes : Type 0 where
  pub callers : ℕ
  pub stripes : ℕ
  pub buckets : ℕ
  pub half : Bool

-- True if only half keys are allowed and the key is 2^63 or more.
abbrev pub is_bad_key : Bool → ℕ → Bool
is_bad_key half key = half && nat_le (2 ^ 63) key

abbrev is_within : ℕ → ℕ → ℕ → Bool
is_within low high n = nat_le low n && nat_le n high

-- The greatest number of callers.
abbrev pub max_callers : ℕ
max_callers = 64

-- The greatest number of stripes.
abbrev pub max_stripes : ℕ
max_stripes = 4096

-- The greatest number of buckets.
abbrev pub max_buckets : ℕ
max_buckets = 65536

-- True if there are 1 to `max_callers` callers and 1 to `max_stripes` stripes, and the number of
-- buckets is a power of two from 2 to `max_buckets`.
abbrev pub are_limits : ℕ → ℕ → ℕ → Bool
are_limits callers stripes buckets =
    is_within 1 max_callers callers && is_within 1 max_stripes stripes
    && is_within 2 max_buckets buckets && is_power_of_two buckets

-- The limits with these numbers, or an error if a number is out of range. The limits allow every
-- key.
abbrev pub limits_of : ℕ → ℕ → ℕ → Result Sizes Refusal
limits_of callers stripes buckets =
    if are_limits callers stripes buckets
    then Ok (record { callers = callers; stripes = stripes; buckets = buckets; half = false })
    else Err Limit
