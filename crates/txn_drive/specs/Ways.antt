-- A helper's path from bucket 0 to a bucket, over the bucket's ancestors.
use Rattle.std.specs.Prelude.{ℕ, ◌==◌, if◌then◌else◌}
use Prim.Native.Nat.{zero, suc}
use Rattle.split_key.specs.Split.{parent_of}

-- Searches upwards from a bucket, through its ancestors. The result is the first bucket whose
-- parent is `last`. The first argument is the number of buckets to test. If all tests fail, the
-- result is the ancestor that follows the last tested bucket.
unfoldable pub child_within : ℕ → ℕ → ℕ → ℕ
child_within zero last bucket = bucket
child_within (suc steps) last bucket =
    if parent_of bucket == last then bucket else child_within steps last (parent_of bucket)

-- The bucket that follows `last` on the path to a bucket. A bucket below 2 ^ 32 has at most 32
-- ancestors other than itself.
unfoldable pub child_towards : ℕ → ℕ → ℕ
child_towards last bucket = child_within 32 last bucket
