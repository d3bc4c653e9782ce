-- Swaps of neighbouring groups of bits by masks and shifts, and six such swaps in a row.
use Rattle.std.proofs.Common.{◌≡◌, ℕ, ◌+◌, ◌*◌, ◌-◌, ◌/◌, ◌%◌, ◌^◌, ◌<◌, ◌≤◌, add-zero, refl, sym, ◌∙◌, ap, arith, inl, inr, true, bit_and, bit_or, nat_eq, nat_lt, min}
use Rattle.std.proofs.lemmas.Bool.{agree_below, agree_below_at, cases_eq, cases_lt, eq-eqb, eqb-true, ltb-true, ne_eqb}
use Rattle.std.proofs.lemmas.Nat.{pow_pos, shr-shr, shr_split}
use Rattle.std.proofs.Math.Nat.{div-eq-sub-div, div-eq_of_lt}
use Rattle.std.proofs.lemmas.Nat.Bits.{bit_at_and, bit_at_or, bit_at-lt, bit_at-zero, bit_at_cat_low, bit_at_cat_high}
use Rattle.std.specs.Int.{bit_at}
use Rattle.split_key.specs.Swap.{swapped_place}

-- If `agree_below` is true for `f` and `g`, they are equal at each of a word's 64 positions.
pub same_at_places : (f g : ℕ → ℕ) → agree_below (λ place. nat_eq (f place) (g place)) (λ _. true) 64 ≡ true → (place : ℕ) → place < 64 → f place ≡ g place
same_at_places f g e place within = eqb-true (f place) (g place) (agree_below_at (λ k. nat_eq (f k) (g k)) (λ _. true) 64 place e within)

-- If a word is shifted down by `width` bits, its bit at `place` is the old bit at `place + width`.
bit_at_shr : (word width place : ℕ) → bit_at (word / 2 ^ width) place ≡ bit_at word (place + width)
bit_at_shr word width place = ap (λ n. n % 2) (shr-shr word width place) ∙ ap (λ k. bit_at word k) (omega arith)

bit_at_mod : (number width place : ℕ) → place < width → bit_at (number % 2 ^ width) place ≡ bit_at number place
bit_at_mod number width place within = sym (bit_at_cat_low (number / 2 ^ width) width (number % 2 ^ width) place within) ∙ ap (λ n. bit_at n place) (shr_split number width)

bit_at_shl : (word width place : ℕ) → width ≤ place → place < 64 → bit_at (word * 2 ^ width % 2 ^ 64) place ≡ bit_at word (place - width)
bit_at_shl word width place above within =
    bit_at_mod (word * 2 ^ width) 64 place within ∙ ap (λ n. bit_at n place) (sym (add-zero (word * 2 ^ width))) ∙ bit_at_cat_high word width 0 place (pow_pos width) above

bit_at_shl_below : (word width place : ℕ) → place < width → place < 64 → bit_at (word * 2 ^ width % 2 ^ 64) place ≡ 0
bit_at_shl_below word width place below within =
    bit_at_mod (word * 2 ^ width) 64 place within ∙ ap (λ n. bit_at n place) (sym (add-zero (word * 2 ^ width))) ∙ bit_at_cat_low word width 0 place below ∙ bit_at-zero place

swapped_place_of_lower : (width place : ℕ) → place / width % 2 ≡ 0 → swapped_place width place ≡ place + width
swapped_place_of_lower width place lower = rw (eq-eqb (place / width % 2) 0 lower) refl

swapped_place_of_upper : (width place : ℕ) → place / width % 2 ≡ 1 → swapped_place width place ≡ place - width
swapped_place_of_upper width place upper = rw (ne_eqb (place / width % 2) 0 (λ none. omega arith)) refl

group_before : (width place : ℕ) → 0 < width → width ≤ place → (place - width) / width % 2 ≡ 1 - place / width % 2
group_before width place some above = omega (arith, div-eq-sub-div some above)

pub bit_at-swapped : (word width low place : ℕ) → 0 < width → ((k : ℕ) → k < 64 → bit_at low k ≡ 1 - k / width % 2) → place < 64
    → bit_at (bit_or (bit_and (word / 2 ^ width) low) (bit_and word low * 2 ^ width % 2 ^ 64)) place ≡ bit_at word (swapped_place width place)
bit_at-swapped word width low place some groups within =
    let down = bit_and (word / 2 ^ width) low in
    let up = bit_and word low * 2 ^ width % 2 ^ 64 in
    let either = bit_at_or down up place in
    let from_above : bit_at down place ≡ min (bit_at word (place + width)) (1 - place / width % 2) =
    bit_at_and (word / 2 ^ width) low place ∙ ap (λ bit. min bit (bit_at low place)) (bit_at_shr word width place) ∙ ap (λ bit. min (bit_at word (place + width)) bit) (groups place within) in
    elim (cases_lt place width) [
      | inl first ↦
          let none = bit_at_shl_below (bit_and word low) width place first within in
          let lower : place / width % 2 ≡ 0 = omega (arith, div-eq_of_lt first) in
          rw (swapped_place_of_lower width place lower) (omega (arith, either, from_above, none, bit_at-lt word (place + width)))
      | inr later ↦
          let from_below : bit_at up place ≡ min (bit_at word (place - width)) (place / width % 2) =
          bit_at_shl (bit_and word low) width place later within ∙ bit_at_and word low (place - width)
          ∙ ap (λ bit. min (bit_at word (place - width)) bit) (groups (place - width) (omega arith) ∙ omega (arith, group_before width place some later)) in
          elim (cases_eq (place / width % 2) 0) [
            | inl lower ↦ rw (swapped_place_of_lower width place lower) (omega (arith, either, from_above, from_below, bit_at-lt word (place + width)))
            | inr other ↦
                let upper : place / width % 2 ≡ 1 = omega arith in
                rw (swapped_place_of_upper width place upper) (omega (arith, either, from_above, from_below, bit_at-lt word (place - width)))
          ]
    ]

-- `new` is `word` with neighbouring groups of `width` bits swapped.
abbrev pub IsSwap : ℕ → ℕ → ℕ → Type 0
IsSwap width word new = (place : ℕ) → place < 64 → bit_at new place ≡ bit_at word (swapped_place width place)

swapped_place_below : (width place : ℕ) → agree_below (λ k. nat_lt (swapped_place width k) 64) (λ _. true) 64 ≡ true → place < 64 → swapped_place width place < 64
swapped_place_below width place e within = ltb-true _ 64 (agree_below_at (λ k. nat_lt (swapped_place width k) 64) (λ _. true) 64 place e within)

-- Swapping neighbouring groups of 1, 2, 4, 8, 16 and 32 bits, one after the other, reverses a word.
pub bit_at-six_swaps : (word pairs nibbles bytes double_bytes halves reversal : ℕ) → IsSwap 1 word pairs → IsSwap 2 pairs nibbles → IsSwap 4 nibbles bytes → IsSwap 8 bytes double_bytes → IsSwap 16 double_bytes halves
    → IsSwap 32 halves reversal → (place : ℕ) → place < 64 → bit_at reversal place ≡ bit_at word (63 - place)
bit_at-six_swaps word pairs nibbles bytes double_bytes halves reversal bits_swap pairs_swap nibbles_swap bytes_swap double_bytes_swap halves_swap place within =
    let in_halves = swapped_place 32 place in
    let in_double_bytes = swapped_place 16 in_halves in
    let in_bytes = swapped_place 8 in_double_bytes in
    let in_nibbles = swapped_place 4 in_bytes in
    let in_pairs = swapped_place 2 in_nibbles in
    let halves_within : in_halves < 64 = swapped_place_below 32 place refl within in
    let double_bytes_within : in_double_bytes < 64 = swapped_place_below 16 in_halves refl halves_within in
    let bytes_within : in_bytes < 64 = swapped_place_below 8 in_double_bytes refl double_bytes_within in
    let nibbles_within : in_nibbles < 64 = swapped_place_below 4 in_bytes refl bytes_within in
    let pairs_within : in_pairs < 64 = swapped_place_below 2 in_nibbles refl nibbles_within in
    halves_swap place within ∙ double_bytes_swap in_halves halves_within ∙ bytes_swap in_double_bytes double_bytes_within ∙ nibbles_swap in_bytes bytes_within ∙ pairs_swap in_nibbles nibbles_within
    ∙ bits_swap in_pairs pairs_within
    ∙ ap (λ k. bit_at word k) (same_at_places (λ k. swapped_place 1 (swapped_place 2 (swapped_place 4 (swapped_place 8 (swapped_place 16 (swapped_place 32 k)))))) (λ k. 63 - k) refl place within)
