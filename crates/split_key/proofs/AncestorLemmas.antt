-- Parents and ancestors of buckets. The number of a bucket's ancestor consists of the lowest bits
-- of the bucket's number, up to some position. So the ancestor's dummy precedes the bucket's dummy,
-- unless the ancestor is the bucket itself.
use Prim.Native.Nat.{zero, suc}
use Rattle.std.proofs.Common.{◌≡◌, ◌≢◌, ℕ, ◌+◌, ◌*◌, ◌-◌, ◌/◌, ◌%◌, ◌^◌, ◌<◌, ◌≤◌, refl, sym, ◌∙◌, ap, arith, pow-suc, div-add-mod', add-mul, inl, inr}
use Rattle.std.proofs.lemmas.Bool.{cases_lt}
use Rattle.std.proofs.lemmas.Bool.Decides.{leb_tells}
use Rattle.std.proofs.lemmas.Nat.{pow_pos, mod_below, mod_low, mod-pow-add}
use Rattle.std.proofs.Math.Nat.{pow-le-pow_right, mod-eq_of_lt, mod-le, mul-le-mul_right}
use Rattle.split_key.specs.Split.{reversed_low, reversed, split, highest_cleared, parent_of, ancestor_of, IsAncestor}
use Rattle.split_key.proofs.SplitLemmas.{reversed_low_below, reversed_low_of_zero, reversed_low_append, lowest_before, lowest_before_key}

-- If a power of two is below `2 ^ width`, its exponent is below `width`.
pub exponent_below : (bit width : ℕ) → 2 ^ bit < 2 ^ width → bit < width
exponent_below bit width small =
    elim (cases_lt bit width) [
      | inl less ↦ less
      | inr more ↦ let large : 2 ^ width ≤ 2 ^ bit = pow-le-pow_right {n = 2} (omega arith) more in absurd (omega arith)
    ]

mod_pow_twice : (number j k : ℕ) → (bits : ℕ) × (bits ≤ j) × (number % 2 ^ j % 2 ^ k ≡ number % 2 ^ bits)
mod_pow_twice number j k =
    elim (cases_lt j k) [
      | inl less ↦
          let within = mod_below number (2 ^ j) (pow_pos j) in
          let power : 2 ^ j ≤ 2 ^ k = pow-le-pow_right {n = 2} (omega arith) (omega arith) in
          (j, omega arith, mod-eq_of_lt {n = number % 2 ^ j} (omega arith))
      | inr more ↦
          let exponent : j - k + k ≡ j = omega arith in
          let split_there = mod-pow-add number (j - k) k in
          let parts = rw exponent at split_there in
          (k, more, rw parts (mod_low (number / 2 ^ k % 2 ^ (j - k)) k (number % 2 ^ k) (mod_below number (2 ^ k) (pow_pos k))))
    ]

-- If a number is `2 ^ bit + rest` and `rest` is below `2 ^ bit`, `highest_cleared` gives `rest`.
pub highest_cleared_is : (width number bit rest : ℕ) → number ≡ 2 ^ bit + rest → rest < 2 ^ bit → bit < width → highest_cleared width number ≡ rest
unfolding highest_cleared
highest_cleared_is zero number bit rest is below small = absurd (omega arith)
highest_cleared_is (suc width) number bit rest is below small =
    elim (cases_lt bit width) [
      | inl less ↦
          let more : 2 ^ suc bit ≤ 2 ^ width = pow-le-pow_right {n = 2} (omega arith) (omega arith) in
          elim (leb_tells (2 ^ width) number) [
            | inl over ↦ absurd (omega (arith, pow-suc 2 bit))
            | inr under ↦ rw (under.0) (highest_cleared_is width number bit rest is below less)
          ]
      | inr same ↦
          let power : 2 ^ bit ≡ 2 ^ width = ap (λ k. 2 ^ k) (omega arith) in
          elim (leb_tells (2 ^ width) number) [
            | inl over ↦ rw (over.0) (omega arith)
            | inr under ↦ absurd (omega arith)
          ]
    ]

highest_cleared_lowest : (width number : ℕ) → number < 2 ^ width → (bits : ℕ) × (highest_cleared width number ≡ number % 2 ^ bits)
unfolding highest_cleared
highest_cleared_lowest zero number small = (0, omega arith)
highest_cleared_lowest (suc width) number small =
    elim (leb_tells (2 ^ width) number) [
      | inl over ↦
          let rest : number - 2 ^ width < 2 ^ width = omega (arith, pow-suc 2 width) in
          let number_is : number ≡ 1 * 2 ^ width + (number - 2 ^ width) = omega arith in
          (width, rw (over.0) (sym (mod_low 1 width (number - 2 ^ width) rest) ∙ ap (λ n. n % 2 ^ width) (sym number_is)))
      | inr under ↦ let below = highest_cleared_lowest width number under.1 in (below.0, rw (under.0) below.1)
    ]

ancestor_of_lowest : (steps bucket : ℕ) → bucket < 2 ^ 32 → (bits : ℕ) × (bits ≤ 32) × (ancestor_of steps bucket ≡ bucket % 2 ^ bits)
unfolding ancestor_of parent_of
ancestor_of_lowest zero bucket small = (32, omega arith, omega arith)
ancestor_of_lowest (suc steps) bucket small =
    let near = ancestor_of_lowest steps bucket small in
    let near_small : ancestor_of steps bucket < 2 ^ 32 = omega (arith, near.2, mod-le bucket (2 ^ near.0)) in
    let cleared = highest_cleared_lowest 32 (ancestor_of steps bucket) near_small in
    let twice = mod_pow_twice bucket near.0 cleared.0 in
    (twice.0, omega arith, cleared.1 ∙ ap (λ n. n % 2 ^ cleared.0) near.2 ∙ twice.2)

-- A bucket is its own ancestor.
pub IsAncestor-self : (bucket : ℕ) → IsAncestor bucket bucket
unfolding ancestor_of
IsAncestor-self bucket = record { steps = 0; reached = refl }

-- The parent of an ancestor is an ancestor.
pub IsAncestor-parent_of : (ancestor descendant : ℕ) → IsAncestor ancestor descendant → IsAncestor (parent_of ancestor) descendant
unfolding ancestor_of
IsAncestor-parent_of ancestor descendant is = record { steps = suc is.steps; reached = ap parent_of is.reached }

-- If an ancestor differs from the bucket, the ancestor's dummy precedes the bucket's dummy.
pub ancestor_before : (ancestor bucket : ℕ) → bucket < 2 ^ 32 → IsAncestor ancestor bucket → ancestor ≢ bucket → reversed ancestor < reversed bucket
ancestor_before ancestor bucket small is other =
    let lowest = ancestor_of_lowest is.steps bucket small in
    let low : ancestor ≡ bucket % 2 ^ lowest.0 = is.reached ∙ lowest.2 in
    elim (cases_lt bucket (2 ^ lowest.0)) [
      | inl short ↦ absurd (other (low ∙ mod-eq_of_lt short))
      | inr longer ↦ rw low (lowest_before lowest.0 bucket (omega (arith, lowest.1)) (omega arith) longer)
    ]

-- The dummies of a key's bucket and of that bucket's ancestors precede the key.
pub ancestor_before_key : (ancestor key exponent : ℕ) → exponent ≤ 32 → IsAncestor ancestor (key % 2 ^ exponent) → reversed ancestor < split key
ancestor_before_key ancestor key exponent small is =
    let within = mod_below key (2 ^ exponent) (pow_pos exponent) in
    let power : 2 ^ exponent ≤ 2 ^ 32 = pow-le-pow_right {n = 2} (omega arith) small in
    let lowest = ancestor_of_lowest is.steps (key % 2 ^ exponent) (omega arith) in
    let twice = mod_pow_twice key exponent lowest.0 in
    let low : ancestor ≡ key % 2 ^ twice.0 = is.reached ∙ lowest.2 ∙ twice.2 in
    rw low (lowest_before_key twice.0 key (omega (arith, twice.1)))

-- If a bucket's number consists of a word's lowest bits, the dummy of each ancestor of the bucket
-- has a split key that is at most the reversed word.
pub ancestor_not_behind : (ancestor word exponent : ℕ) → exponent ≤ 32 → word < 2 ^ 64 → IsAncestor ancestor (word % 2 ^ exponent) → reversed ancestor ≤ reversed word
ancestor_not_behind ancestor word exponent small fits is =
    let within = mod_below word (2 ^ exponent) (pow_pos exponent) in
    let power : 2 ^ exponent ≤ 2 ^ 32 = pow-le-pow_right {n = 2} (omega arith) small in
    let lowest = ancestor_of_lowest is.steps (word % 2 ^ exponent) (omega arith) in
    let twice = mod_pow_twice word exponent lowest.0 in
    let low : ancestor ≡ word % 2 ^ twice.0 = is.reached ∙ lowest.2 ∙ twice.2 in
    elim (cases_lt word (2 ^ twice.0)) [
      | inl short ↦ let same : ancestor ≡ word = low ∙ mod-eq_of_lt short in rw same (omega arith)
      | inr longer ↦ let lower = lowest_before twice.0 word (omega (arith, twice.1)) fits longer in rw low (omega (arith, lower))
    ]

whole_not_above : (a b unit rest : ℕ) → rest < unit → a * unit ≤ b * unit + rest → a ≤ b
whole_not_above a b unit rest part below =
    elim (cases_lt b a) [
      | inl less ↦
          let more : suc b * unit ≤ a * unit = mul-le-mul_right unit less in
          absurd (omega (arith, add-mul b 1 unit, more))
      | inr within ↦ within
    ]

-- Take a number with at most `exponent` bits. If its reversal is at most the reversed word, its
-- reversal is also at most the reversal of the word's lowest `exponent` bits.
pub lowest_is_last : (other word exponent : ℕ) → exponent ≤ 64 → other < 2 ^ exponent → reversed other ≤ reversed word → reversed other ≤ reversed (word % 2 ^ exponent)
unfolding reversed
lowest_is_last other word exponent small short below =
    let above = 64 - exponent in
    let width : exponent + above ≡ 64 = omega arith in
    let low = word % 2 ^ exponent in
    let high = word / 2 ^ exponent in
    let within = mod_below word (2 ^ exponent) (pow_pos exponent) in
    let whole = reversed_low_append exponent above high low word within (sym (div-add-mod' word (2 ^ exponent))) in
    let alone = reversed_low_append exponent above 0 low low within (omega arith) in
    let of_other = reversed_low_append exponent above 0 other other short (omega arith) in
    let zero_above = reversed_low_of_zero above in
    let at : (n : ℕ) → reversed_low 64 n ≡ reversed_low (exponent + above) n = λ n. ap (λ w. reversed_low w n) (sym width) in
    let last = whole_not_above (reversed_low exponent other) (reversed_low exponent low) (2 ^ above) (reversed_low above high)
    (reversed_low_below above high) (omega (arith, at other, at word, whole, of_other, zero_above, below)) in
    omega (arith, at other, at low, alone, of_other, zero_above, mul-le-mul_right (2 ^ above) last)
