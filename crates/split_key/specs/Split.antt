-- Bits in reverse order, split keys, and the buckets of a table.
use Rattle.std.specs.Prelude.{ℕ, ◌≡◌, ◌+◌, ◌*◌, ◌-◌, ◌/◌, ◌%◌, ◌^◌, ◌<◌, nat_le, if◌then◌else◌}
use Prim.Native.Nat.{zero, suc}

-- The lowest bits of a word, in reverse order. The first argument is the number of bits.
unfoldable pub reversed_low : ℕ → ℕ → ℕ
reversed_low zero word = 0
reversed_low (suc width) word = word % 2 * 2 ^ width + reversed_low width (word / 2)

-- The 64 bits of a word in reverse order. If the word is a bucket, this is the split key of the
-- bucket's dummy node.
unfoldable pub reversed : ℕ → ℕ
reversed word = reversed_low 64 word

-- The split key of a key: the key's 64 bits in reverse order, after bit 63 has been set.
unfoldable pub split : ℕ → ℕ
split key = reversed (key % 2 ^ 63 + 2 ^ 63)

-- The number after its highest 1 bit is cleared. The number must be below 2 ^ width.
unfoldable pub highest_cleared : ℕ → ℕ → ℕ
highest_cleared zero number = 0
highest_cleared (suc width) number =
    if nat_le (2 ^ width) number then number - 2 ^ width else highest_cleared width number

-- The parent of a bucket; bucket 0 is its own parent.
unfoldable pub parent_of : ℕ → ℕ
parent_of bucket = highest_cleared 32 bucket

-- The bucket's number is the parent's number with one more 1 bit, which is above all 1 bits of the
-- parent's number.
pub record IsParent (bucket parent : ℕ) : Type 0 where
  pub bit : ℕ
  pub splits : bucket ≡ 2 ^ bit + parent
  pub below : parent < 2 ^ bit

-- The bucket that is reached from the given bucket in `steps` steps. Each step goes from a bucket
-- to its parent.
unfoldable pub ancestor_of : ℕ → ℕ → ℕ
ancestor_of zero bucket = bucket
ancestor_of (suc steps) bucket = parent_of (ancestor_of steps bucket)

-- The ancestor is reached from the bucket by some number of steps, each to the parent. A bucket is
-- its own ancestor, reached by zero steps.
pub record IsAncestor (ancestor bucket : ℕ) : Type 0 where
  pub steps : ℕ
  pub reached : ancestor ≡ ancestor_of steps bucket

pub record IsPowerOfTwo (size : ℕ) : Type 0 where
  pub exponent : ℕ
  pub is : size ≡ 2 ^ exponent
