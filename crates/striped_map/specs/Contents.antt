-- The pairs of several shards together.
use Rattle.std.specs.Prelude.{ℕ, Bool, ◌+◌, ◌*◌, ◌==◌, List, filter, map, flat_map}
use Rattle.txn_trace.specs.Locks.{stripe_of}
use Rattle.txn_words.specs.Map.{Map, count_of}
use Rattle.striped_map.specs.Sound.{HeldShard}

-- How many pairs a shard has.
abbrev pub count_at : HeldShard → ℕ
count_at h = count_of h.shard.content

-- A pair of a stripe's shard, with the map's key in place of the sub-key.
abbrev pub whole : ℕ → ℕ → ℕ × ℕ → ℕ × ℕ
whole stripes stripe pair = (pair.0 * stripes + stripe, pair.1)

-- The pairs of a shard, with the map's keys in place of the sub-keys.
abbrev pub pairs_at : ℕ → HeldShard → List (ℕ × ℕ)
pairs_at stripes h = map (whole stripes h.stripe) h.shard.content.rows

-- The pairs of several shards, one shard after the other, with the map's keys in place of the
-- sub-keys.
abbrev pub pairs_in : ℕ → List HeldShard → List (ℕ × ℕ)
pairs_in stripes held = flat_map (pairs_at stripes) held

-- Whether the key of a pair is in this stripe.
abbrev pub is_in : ℕ → ℕ → ℕ × ℕ → Bool
is_in stripes stripe pair = stripe_of stripes pair.0 == stripe

-- The pairs of a map whose keys are in the stripe of this key, by rising keys.
abbrev pub rows_with : ℕ → ℕ → Map → List (ℕ × ℕ)
rows_with stripes key m = filter (is_in stripes (stripe_of stripes key)) m.rows
