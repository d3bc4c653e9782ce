-- A sort key as contracts see it, and the meaning of its fields.
use Rattle.std.specs.Prelude.{◌≡◌, ℕ, ◌+◌, ◌%◌, ◌^◌, ◌<◌, ◌==◌, Bool, true, false, List, length, slice_index_or, nat_le, if◌then◌else◌}
use Rattle.std.specs.Int.{w64, to_le_bytes, from_le_bytes}
use Rattle.std.proofs.Common.{refl, arith, inl, inr, ne_eqb, eq-eqb}
use Rattle.std.proofs.lemmas.Bool.{cases_eq}
use Rattle.std.proofs.lemmas.Bool.Decides.{leb_tells}
use Rattle.std.proofs.lemmas.Nat.{le_bytes_8}
use Rattle.split_key.specs.Split.{reversed}

-- A split key, and the key of the node that has this split key. For a dummy, the key is 0.
pub record SortAt : Type 0 where
  pub split : ℕ
  pub key : ℕ

-- The number that eight bytes stand for, the lowest byte first.
unfoldable pub word_of : List ℕ → ℕ
word_of bytes = from_le_bytes w64 bytes

-- The eight bytes of a number, the lowest byte first.
unfoldable pub bytes_of : ℕ → List ℕ
bytes_of word = to_le_bytes w64 word

-- The key that belongs to a split key. A regular node's split key belongs to two keys, and
-- `is_upper` says whether the key is the one that is 2^63 or more. For a dummy's split key, the
-- result is 0.
unfoldable pub key_of_split : ℕ → Bool → ℕ
key_of_split split is_upper =
    if split % 2 == 0 then 0 else reversed split % 2 ^ 63 + (if is_upper then 2 ^ 63 else 0)

-- The sort key that these bytes and `is_upper` stand for. The bytes give its split key.
-- `key_of_split` then gives its key.
abbrev pub sort_seen : List ℕ → Bool → SortAt
sort_seen bytes is_upper = record {
  split = word_of bytes;
  key = key_of_split (word_of bytes) is_upper;
}

-- The list consists of eight bytes. If they stand for a dummy's split key, `is_upper` is false.
pub record IsPacked (bytes : List ℕ) (is_upper : Bool) : Type 0 where
  pub width : length bytes ≡ 8
  pub small : (place : ℕ) → slice_index_or bytes place 0 < 256
  pub upper : is_upper ≡ true → word_of bytes % 2 ≡ 1

-- For a dummy's split key, `key_of_split` is 0.
pub key_in_dummy : (split : ℕ) (is_upper : Bool) → split % 2 ≡ 0 → key_of_split split is_upper ≡ 0
unfolding key_of_split
key_in_dummy split is_upper even = rw (eq-eqb (split % 2) 0 even) refl

-- For a regular node's split key, `key_of_split` is the lowest 63 bits of the reversed split key,
-- plus 2^63 if `is_upper` is true.
pub key_in_regular : (split : ℕ) (is_upper : Bool) → split % 2 ≡ 1
    → key_of_split split is_upper ≡ reversed split % 2 ^ 63 + (if is_upper then 2 ^ 63 else 0)
unfolding key_of_split
key_in_regular split is_upper odd = rw (ne_eqb (split % 2) 0 (λ even. omega arith)) refl

-- Assume that `is_upper` is false for a dummy's split key. Then the key that `key_of_split` returns
-- is 2^63 or more exactly if `is_upper` is true.
pub upper_is : (split : ℕ) (is_upper : Bool) → (is_upper ≡ true → split % 2 ≡ 1)
    → nat_le (2 ^ 63) (key_of_split split is_upper) ≡ is_upper
upper_is split true odd =
    elim (leb_tells (2 ^ 63) (key_of_split split true)) [
      | inl over ↦ over.0
      | inr under ↦ absurd (omega (arith, under.1, key_in_regular split true (odd refl)))
    ]
upper_is split false odd =
    elim (leb_tells (2 ^ 63) (key_of_split split false)) [
      | inl over ↦ absurd (elim (cases_eq (split % 2) 0) [
        | inl even ↦ omega (arith, over.1, key_in_dummy split false even)
        | inr other ↦ omega (arith, over.1, key_in_regular split false (omega arith))
      ])
      | inr under ↦ under.0
    ]

-- If eight bytes are turned into a number, and this number into bytes, the result is the same eight
-- bytes.
pub bytes_are : (bytes : List ℕ) (is_upper : Bool) → IsPacked bytes is_upper
    → bytes_of (word_of bytes) ≡ bytes
unfolding word_of bytes_of
bytes_are bytes is_upper packed =
    le_bytes_8 bytes (from_le_bytes w64 bytes) packed.width packed.small refl
