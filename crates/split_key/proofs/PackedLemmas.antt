-- Lemmas on the fields of a sort key: the bytes of its split key, and whether its key is in the
-- upper half.
use Prim.Native.Nat.{zero, suc}
use Rattle.std.proofs.Common.{◌≡◌, ◌≢◌, ℕ, ◌+◌, ◌/◌, ◌%◌, ◌^◌, ◌<◌, inl, inr, Bool, true, false, refl, sym, ◌∙◌, ap, ap₂, arith, ◌==◌, ◌&&◌, not, nat_lt, nat_le, List, length, slice_index_or}
use Rattle.std.proofs.Math.Bool.{beq}
use Rattle.std.proofs.lemmas.Bool.Decides.{eqb_tells, leb_tells}
use Rattle.std.proofs.lemmas.Nat.{from_le_bytes-to_le_bytes_8, mod_below}
use Rattle.std.specs.Int.{byte_at, bytes_low_first}
use Rattle.split_key.specs.declared.sort.SortKey.{SortKey}
use Rattle.split_key.specs.Split.{reversed, split}
use Rattle.split_key.specs.Sort.{is_before, is_same, regular_at, dummy_at}
use Rattle.split_key.specs.SortAt.{IsPacked, bytes_of, word_of, key_of_split, key_in_dummy, key_in_regular, sort_seen, upper_is}
use Rattle.split_key.proofs.SplitLemmas.{reversed_below, reversed_twice, split_odd}
use Rattle.split_key.proofs.SortLemmas.{true-false, below_test, above_test, same_test, by_split, by_key}

-- ---- bytes
byte_small : (place word : ℕ) → byte_at place word < 256
byte_small zero word = mod_below word 256 (omega arith)
byte_small (suc place) word = mod_below (word / 256 ^ suc place) 256 (omega arith)

bytes_small : (first count word place : ℕ) → slice_index_or (bytes_low_first first count word) place 0 < 256
bytes_small first zero word place = omega arith
bytes_small first (suc count) word zero = byte_small first word
bytes_small first (suc count) word (suc place) = bytes_small (suc first) count word place

word_back : (word : ℕ) → word < 2 ^ 64 → word_of (bytes_of word) ≡ word
unfolding word_of bytes_of
word_back word fits = from_le_bytes-to_le_bytes_8 word fits

bytes_width : (word : ℕ) → length (bytes_of word) ≡ 8
unfolding bytes_of
bytes_width word = refl

bytes_are_small : (word place : ℕ) → slice_index_or (bytes_of word) place 0 < 256
unfolding bytes_of
bytes_are_small word place = bytes_small 0 8 word place

-- If the word is odd or `is_upper` is false, the word's bytes and `is_upper` satisfy `IsPacked`.
packed : (word : ℕ) (is_upper : Bool) → word < 2 ^ 64 → (is_upper ≡ true → word % 2 ≡ 1) → IsPacked (bytes_of word) is_upper
packed word is_upper fits odd = record {
  width = bytes_width word;
  small = bytes_are_small word;
  upper = λ upper. rw (word_back word fits) (odd upper);
}

-- ---- the sort keys that are made
key_told : (key : ℕ) (is_upper : Bool) → key < 2 ^ 64 → is_upper ≡ nat_le (2 ^ 63) key → reversed (split key) ≡ key % 2 ^ 63 + 2 ^ 63 → key_of_split (split key) is_upper ≡ key
key_told key true fits is again = elim (leb_tells (2 ^ 63) key) [
  | inl over ↦ omega (arith, key_in_regular (split key) true (split_odd key), again, over.1, fits)
  | inr under ↦ absurd (true-false (is ∙ under.0))
]
key_told key false fits is again = elim (leb_tells (2 ^ 63) key) [
  | inl over ↦ absurd (true-false (sym over.0 ∙ sym is))
  | inr under ↦ omega (arith, key_in_regular (split key) false (split_odd key), again, under.1)
]

split_again : (key : ℕ) → reversed (split key) ≡ key % 2 ^ 63 + 2 ^ 63
unfolding split
split_again key = reversed_twice (key % 2 ^ 63 + 2 ^ 63) (omega arith)

split_fits : (key : ℕ) → split key < 2 ^ 64
unfolding split
split_fits key = reversed_below _

pub regular_packed : (key : ℕ) (is_upper : Bool) → IsPacked (bytes_of (split key)) is_upper
regular_packed key is_upper = packed (split key) is_upper (split_fits key) (λ upper. split_odd key)

pub regular_seen : (key : ℕ) (is_upper : Bool) → key < 2 ^ 64 → is_upper ≡ nat_le (2 ^ 63) key → sort_seen (bytes_of (split key)) is_upper ≡ regular_at key
regular_seen key is_upper fits is =
    rw (word_back (split key) (split_fits key)) (ap (λ (k : ℕ). record { split = split key; key = k }) (key_told key is_upper fits is (split_again key)))

not_upper : (word : ℕ) → false ≡ true → word % 2 ≡ 1
not_upper word upper = cc

pub dummy_packed : (bucket : ℕ) → IsPacked (bytes_of (reversed bucket)) false
dummy_packed bucket = packed (reversed bucket) false (reversed_below _) (λ upper. not_upper _ upper)

pub dummy_seen : (bucket : ℕ) → reversed bucket % 2 ≡ 0 → sort_seen (bytes_of (reversed bucket)) false ≡ dummy_at bucket
dummy_seen bucket even =
    let back : word_of (bytes_of (reversed bucket)) ≡ reversed bucket = word_back (reversed bucket) (reversed_below _) in
    rw back (ap (λ (k : ℕ). record { split = reversed bucket; key = k }) (key_in_dummy (reversed bucket) false even))

pub halves_differ : (is_upper others : Bool) → beq is_upper others ≡ false → is_upper ≢ others
halves_differ false false is same = true-false is
halves_differ false true is same = true-false (sym same)
halves_differ true false is same = true-false same
halves_differ true true is same = true-false is

pub halves_same : (is_upper others : Bool) → beq is_upper others ≡ true → is_upper ≡ others
halves_same false false is = refl
halves_same false true is = absurd (true-false (sym is))
halves_same true false is = absurd (true-false (sym is))
halves_same true true is = refl

-- The bytes stand for the split key of the sort key `at`. This split key and `is_upper` give the
-- key of `at`. If `is_upper` is true, the split key is odd.
pub record HasParts (at : SortKey) (bytes : List ℕ) (is_upper : Bool) : Type 0 where
  pub split : word_of bytes ≡ at.split
  pub key : key_of_split at.split is_upper ≡ at.key
  pub odd : is_upper ≡ true → at.split % 2 ≡ 1

pub parts_of : (at : SortKey) (bytes : List ℕ) (is_upper : Bool) → sort_seen bytes is_upper ≡ at → IsPacked bytes is_upper → HasParts at bytes is_upper
parts_of at bytes is_upper is packed =
    let split_is : word_of bytes ≡ at.split = ap (λ (s : SortKey). s.split) is in
    record {
      split = split_is;
      key = ap (λ split. key_of_split split is_upper) (sym split_is) ∙ ap (λ (s : SortKey). s.key) is;
      odd = λ upper. ap (λ split. split % 2) (sym split_is) ∙ packed.upper upper;
    }

upper_before : (at k l : ℕ) (is_upper others : Bool) → key_of_split at is_upper ≡ k → key_of_split at others ≡ l → (is_upper ≡ true → at % 2 ≡ 1) → (others ≡ true → at % 2 ≡ 1) → nat_lt k l ≡ (not is_upper && others)
upper_before at k l false false k_is l_is odd others_odd = above_test k l (omega (arith, k_is, l_is))
upper_before at k l false true k_is l_is odd others_odd =
    below_test k l (omega (arith, sym k_is ∙ key_in_regular at false (others_odd refl), sym l_is ∙ key_in_regular at true (others_odd refl)))
upper_before at k l true false k_is l_is odd others_odd =
    above_test k l (omega (arith, sym k_is ∙ key_in_regular at true (odd refl), sym l_is ∙ key_in_regular at false (odd refl)))
upper_before at k l true true k_is l_is odd others_odd = above_test k l (omega (arith, k_is, l_is))

pub before_by_half : (a b : SortKey) (own its : List ℕ) (is_upper others : Bool) → HasParts a own is_upper → HasParts b its others → word_of own ≡ word_of its → is_before a b ≡ (not is_upper && others)
before_by_half a b own its is_upper others a_has b_has same_word =
    let same : a.split ≡ b.split = sym a_has.split ∙ same_word ∙ b_has.split in
    by_key a b same ∙ upper_before a.split a.key b.key is_upper others a_has.key (ap (λ split. key_of_split split others) same ∙ b_has.key) a_has.odd (λ upper. ap (λ split. split % 2) same ∙ b_has.odd upper)

pub before_by_word : (a b : SortKey) (own its : List ℕ) (is_upper others : Bool) → HasParts a own is_upper → HasParts b its others → word_of own ≢ word_of its → is_before a b ≡ nat_lt (word_of own) (word_of its)
before_by_word a b own its is_upper others a_has b_has differ =
    rw (a_has.split, b_has.split) (by_split a b (λ same. differ (a_has.split ∙ same ∙ sym b_has.split)))

pub same_by_word : (a b : SortKey) (own its : List ℕ) (is_upper others : Bool) → HasParts a own is_upper → HasParts b its others → is_upper ≡ others → (word_of own == word_of its) ≡ is_same a b
same_by_word a b own its is_upper others a_has b_has half = elim (eqb_tells a.split b.split) [
  | inl here ↦
      let keys : a.key ≡ b.key = sym a_has.key ∙ ap₂ (λ split upper. key_of_split split upper) here.1 half ∙ b_has.key in
      rw (a_has.split, b_has.split, here.0, same_test a.key b.key keys) refl
  | inr differs ↦ rw (a_has.split, b_has.split, differs.0) refl
]

pub other_by_half : (a b : SortKey) (own its : List ℕ) (is_upper others : Bool) → HasParts a own is_upper → HasParts b its others → is_upper ≢ others → false ≡ is_same a b
other_by_half a b own its is_upper others a_has b_has differ = elim (eqb_tells a.key b.key) [
  | inl here ↦ absurd (differ (sym (upper_is a.split is_upper a_has.odd) ∙ ap (nat_le (2 ^ 63)) (a_has.key ∙ here.1 ∙ sym b_has.key) ∙ upper_is b.split others b_has.odd))
  | inr apart ↦ elim (eqb_tells a.split b.split) [
    | inl same ↦ rw (same.0, apart.0) refl
    | inr differs ↦ rw differs.0 refl
  ]
]
