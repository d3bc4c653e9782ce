-- Shows the order of split keys, and that no two words share a reversal, because the reversal of a
-- word in two parts is the reversals of the parts, exchanged.
use Prim.Native.Nat.{zero, suc}
use Rattle.std.proofs.Common.{◌≡◌, ℕ, ◌+◌, ◌*◌, ◌-◌, ◌/◌, ◌%◌, ◌^◌, ◌<◌, ◌≤◌, refl, sym, ◌∙◌, ap, arith, bit_or, pow-suc, zero-add, suc-add, div-add-mod', add-mul, subst, mul_assoc, mul_left_comm, inl, inr}
use Rattle.std.proofs.lemmas.Bool.{cases_lt}
use Rattle.std.proofs.lemmas.Nat.{pow_pos, pow-add, mod_below, mod_low, mod-pow-add, shr_below, le-div, or_lt}
use Rattle.std.proofs.Math.Nat.{mul-le-mul_right}
use Rattle.std.proofs.lemmas.Nat.Bits.{bit_at_lowest, bit_at-suc, bit_at-lt, bit_at_or, bit_at-pow_same, bit_at-pow_other, bit_at_cat_low, bit_at_cat_high, same_from_bits_below}
use Rattle.std.specs.Int.{bit_at}
use Rattle.split_key.specs.Split.{reversed_low, reversed, split}

-- ---- products of plain numbers
top_and_rest_below : (top rest power double : ℕ) → top < 2 → rest < power → double ≡ 2 * power → top * power + rest < double
top_and_rest_below top rest power double t r e = grind arith

double_of : (a power double : ℕ) → double ≡ 2 * power → a * double ≡ 2 * (a * power)
double_of a power double e = omega (arith, ap (λ n. a * n) e, mul_left_comm a 2 power)

shifted_on : (top j k rest low both : ℕ) → both ≡ j * k → top * both + (rest * k + low) ≡ (top * j + rest) * k + low
shifted_on top j k rest low both e = omega (arith, ap (λ n. top * n) e, add-mul (top * j) rest k, mul_assoc top j k)

-- ---- the lowest bits in reverse
pub reversed_low_below : (width word : ℕ) → reversed_low width word < 2 ^ width
unfolding reversed_low
reversed_low_below zero word = omega arith
reversed_low_below (suc width) word =
    let top : word % 2 < 2 = omega arith in
    let rest = reversed_low_below width (word / 2) in
    top_and_rest_below (word % 2) _ (2 ^ width) _ top rest (omega (arith, pow-suc 2 width))

pub reversed_low_of_zero : (width : ℕ) → reversed_low width 0 ≡ 0
unfolding reversed_low
reversed_low_of_zero zero = refl
reversed_low_of_zero (suc width) = omega (arith, reversed_low_of_zero width)

-- Let a word be `high * 2 ^ j + low`. The high part of the word's reversal is the reversal of
-- `low`, and the low part is the reversal of `high`.
pub reversed_low_append : (j k high low word : ℕ) → low < 2 ^ j → word ≡ high * 2 ^ j + low → reversed_low (j + k) word ≡ reversed_low j low * 2 ^ k + reversed_low k high
unfolding reversed_low
reversed_low_append zero k high low word within is =
    let nothing_low : low ≡ 0 = omega arith in
    let same : word ≡ high = omega arith in
    rw (zero-add k, same) (omega arith)
reversed_low_append (suc j) k high low word within is =
    let double : 2 ^ suc j ≡ 2 * 2 ^ j = omega (arith, pow-suc 2 j) in
    let high_double = double_of high (2 ^ j) (2 ^ suc j) double in
    let same_bit : word % 2 ≡ low % 2 = omega arith in
    let half : word / 2 ≡ high * 2 ^ j + low / 2 = omega arith in
    let half_within : low / 2 < 2 ^ j = omega arith in
    let rest = reversed_low_append j k high (low / 2) (word / 2) half_within half in
    let shifted = shifted_on (low % 2) (2 ^ j) (2 ^ k) (reversed_low j (low / 2)) (reversed_low k high) (2 ^ (j + k)) (pow-add 2 j k) in
    let same_top : word % 2 * 2 ^ (j + k) ≡ low % 2 * 2 ^ (j + k) = ap (λ bit. bit * 2 ^ (j + k)) same_bit in
    rw (suc-add j k) (omega (arith, rest, same_top, shifted))

pub bit_at-reversed_low : (width word place : ℕ) → place < width → bit_at (reversed_low width word) place ≡ bit_at word (width - 1 - place)
unfolding reversed_low
bit_at-reversed_low zero word place within = absurd (omega arith)
bit_at-reversed_low (suc width) word place within =
    let rest = reversed_low width (word / 2) in
    elim (cases_lt place width) [
      | inl less ↦
          bit_at_cat_low (word % 2) width rest place less ∙ bit_at-reversed_low width (word / 2) place less ∙ sym (bit_at-suc word (width - 1 - place))
          ∙ ap (λ k. bit_at word k) (omega arith)
      | inr more ↦
          let above : place - width ≡ 0 = omega arith in
          let lowest : suc width - 1 - place ≡ 0 = omega arith in
          bit_at_cat_high (word % 2) width rest place (reversed_low_below width (word / 2)) more ∙ rw (above, lowest) (omega (arith, bit_at_lowest word, bit_at_lowest (word % 2)))
    ]

pub reversed_low_twice : (width word : ℕ) → word < 2 ^ width → reversed_low width (reversed_low width word) ≡ word
reversed_low_twice width word within =
    same_from_bits_below width _ _ (reversed_low_below width _) within (λ place lower.
    let back : width - 1 - (width - 1 - place) ≡ place = omega arith in
    bit_at-reversed_low width (reversed_low width word) place lower ∙ bit_at-reversed_low width word (width - 1 - place) (omega arith) ∙ ap (λ k. bit_at word k) back)

reversed_low_above_zero : (width word : ℕ) → word < 2 ^ width → 0 < word → 0 < reversed_low width word
reversed_low_above_zero width word within some =
    elim (cases_lt 0 (reversed_low width word)) [
      | inl above ↦ above
      | inr none ↦
          let nothing : reversed_low width word ≡ 0 = omega arith in
          let word_is : word ≡ 0 = sym (reversed_low_twice width word within) ∙ ap (λ r. reversed_low width r) nothing ∙ reversed_low_of_zero width in
          absurd (omega arith)
    ]

-- ---- words of 64 bits
pub reversed_below : (word : ℕ) → reversed word < 2 ^ 64
unfolding reversed
reversed_below word = reversed_low_below 64 word

pub bit_at-reversed : (word place : ℕ) → place < 64 → bit_at (reversed word) place ≡ bit_at word (63 - place)
unfolding reversed
bit_at-reversed word place within = bit_at-reversed_low 64 word place within

pub reversed_twice : (word : ℕ) → word < 2 ^ 64 → reversed (reversed word) ≡ word
unfolding reversed
reversed_twice word within = reversed_low_twice 64 word within

-- Two words with the same reversal are equal.
pub same_from_reversed : (a b : ℕ) → a < 2 ^ 64 → b < 2 ^ 64 → reversed a ≡ reversed b → a ≡ b
same_from_reversed a b a_fits b_fits same = sym (reversed_twice a a_fits) ∙ ap reversed same ∙ reversed_twice b b_fits

top_set_below : (key : ℕ) → key % 2 ^ 63 + 2 ^ 63 < 2 ^ 64
top_set_below key = omega (arith, mod_below key (2 ^ 63) (pow_pos 63))

top_set_bits : (key place : ℕ) → place < 64 → bit_at (bit_or key (2 ^ 63)) place ≡ bit_at (1 * 2 ^ 63 + key % 2 ^ 63) place
top_set_bits key place within =
    let either = bit_at_or key (2 ^ 63) place in
    let lower = mod_below key (2 ^ 63) (pow_pos 63) in
    elim (cases_lt place 63) [
      | inl less ↦
          let unset = bit_at-pow_other 63 place (λ same. omega (arith, same, less)) in
          let from_rest = bit_at_cat_low 1 63 (key % 2 ^ 63) place less in
          let from_key = bit_at_cat_low (key / 2 ^ 63) 63 (key % 2 ^ 63) place less in
          let whole : bit_at (key / 2 ^ 63 * 2 ^ 63 + key % 2 ^ 63) place ≡ bit_at key place = ap (λ n. bit_at n place) (div-add-mod' key (2 ^ 63)) in
          omega (arith, either, unset, from_rest, from_key, whole)
      | inr more ↦
          let top : place ≡ 63 = omega arith in
          let set = bit_at-pow_same 63 in
          let high = bit_at_cat_high 1 63 (key % 2 ^ 63) place lower more in
          let one : bit_at 1 (place - 63) ≡ 1 = rw top refl in
          let set_there : bit_at (2 ^ 63) place ≡ 1 = rw top set in
          omega (arith, either, set_there, high, one, bit_at-lt key place)
    ]

pub top_set_is : (key : ℕ) → key < 2 ^ 64 → bit_or key (2 ^ 63) ≡ key % 2 ^ 63 + 2 ^ 63
top_set_is key fits =
    let whole : 1 * 2 ^ 63 + key % 2 ^ 63 ≡ key % 2 ^ 63 + 2 ^ 63 = omega arith in
    same_from_bits_below 64 (bit_or key (2 ^ 63)) (1 * 2 ^ 63 + key % 2 ^ 63) (or_lt 64 key (2 ^ 63) fits (omega arith)) (omega (arith, top_set_below key)) (top_set_bits key) ∙ whole

-- Two keys have the same split key exactly if all their bits below bit 63 are the same.
pub same_from_split : (a b : ℕ) → split a ≡ split b → a % 2 ^ 63 ≡ b % 2 ^ 63
unfolding split
same_from_split a b same =
    let one = same_from_reversed (a % 2 ^ 63 + 2 ^ 63) (b % 2 ^ 63 + 2 ^ 63) (top_set_below a) (top_set_below b) same in
    omega (arith, one)

pub split_same : (a b : ℕ) → a % 2 ^ 63 ≡ b % 2 ^ 63 → split a ≡ split b
unfolding split
split_same a b same = ap (λ rest. reversed (rest + 2 ^ 63)) same

-- The split key of a regular node is odd, and that of a dummy is even.
pub split_odd : (key : ℕ) → split key % 2 ≡ 1
unfolding split
split_odd key =
    let word = key % 2 ^ 63 + 2 ^ 63 in
    let rest = mod_below key (2 ^ 63) (pow_pos 63) in
    let top : bit_at word 63 ≡ 1 = ap (λ n. bit_at n 63) (omega arith) ∙ bit_at_cat_high 1 63 (key % 2 ^ 63) 63 rest (omega arith) ∙ refl in
    omega (arith, bit_at_lowest (reversed word), bit_at-reversed word 0 (omega arith), top)

pub reversed_even : (bucket : ℕ) → bucket < 2 ^ 63 → reversed bucket % 2 ≡ 0
reversed_even bucket fits = omega (arith, bit_at_lowest (reversed bucket), bit_at-reversed bucket 0 (omega arith))

-- If a word is 2 ^ `j` or more, the reversal of its lowest `j` bits is below the reversal of the
-- whole word.
pub lowest_before : (j word : ℕ) → j ≤ 64 → word < 2 ^ 64 → 2 ^ j ≤ word → reversed (word % 2 ^ j) < reversed word
unfolding reversed
lowest_before j word small fits longer =
    let k = 64 - j in
    let width : j + k ≡ 64 = omega arith in
    let turned : k + j ≡ 64 = omega arith in
    let low = word % 2 ^ j in
    let high = word / 2 ^ j in
    let low_within = mod_below word (2 ^ j) (pow_pos j) in
    let high_within : high < 2 ^ k = shr_below word k j (rw turned fits) in
    let high_some = le-div 1 word (2 ^ j) (pow_pos j) (omega arith) in
    let alone = reversed_low_append j k 0 low low low_within (omega arith) in
    let whole = reversed_low_append j k high low word low_within (sym (div-add-mod' word (2 ^ j))) in
    let more = reversed_low_above_zero k high high_within high_some in
    let at : (n : ℕ) → reversed_low 64 n ≡ reversed_low (j + k) n = λ n. ap (λ w. reversed_low w n) (sym width) in
    omega (arith, at low, at word, alone, whole, more, reversed_low_of_zero k)

-- The reversal of a key's lowest bits is below the key's split key.
pub lowest_before_key : (bits key : ℕ) → bits ≤ 63 → reversed (key % 2 ^ bits) < split key
unfolding split
lowest_before_key bits key small =
    let above = 63 - bits in
    let width : above + bits ≡ 63 = omega arith in
    let power : 2 ^ above * 2 ^ bits ≡ 2 ^ 63 = sym (pow-add 2 above bits) ∙ ap (λ k. 2 ^ k) width in
    let rest = key % 2 ^ 63 in
    let word = rest + 2 ^ 63 in
    let fits : word < 2 ^ 64 = top_set_below key in
    let low_within = mod_below rest (2 ^ bits) (pow_pos bits) in
    let word_is : word ≡ (rest / 2 ^ bits + 2 ^ above) * 2 ^ bits + rest % 2 ^ bits = omega (arith, power, add-mul (rest / 2 ^ bits) (2 ^ above) (2 ^ bits), div-add-mod' rest (2 ^ bits)) in
    let same_low : word % 2 ^ bits ≡ rest % 2 ^ bits = rw word_is (mod_low (rest / 2 ^ bits + 2 ^ above) bits (rest % 2 ^ bits) low_within) in
    let key_is = mod-pow-add key above bits in
    let in_key : rest % 2 ^ bits ≡ key % 2 ^ bits =
    ap (λ k. key % 2 ^ k % 2 ^ bits) (sym width) ∙ ap (λ n. n % 2 ^ bits) key_is
    ∙ mod_low (key / 2 ^ bits % 2 ^ above) bits (key % 2 ^ bits) (mod_below key (2 ^ bits) (pow_pos bits)) in
    let longer : 2 ^ bits ≤ word = omega (arith, power, mul-le-mul_right (2 ^ bits) (pow_pos above)) in
    subst (λ low. reversed low < reversed word) (same_low ∙ in_key) (lowest_before bits word (omega arith) fits longer)
