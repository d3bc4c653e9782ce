-- How `number_of` reads a text with a minus sign, a text without a minus sign, and a text of digits
-- only.
use Rattle.std.proofs.Common.{◌≡◌, ℕ, ◌+◌, ◌-◌, ◌^◌, ◌<◌, ◌≤◌, ◌&&◌, if◌then◌else◌, true, false, ◌==◌, nat_lt, List, [], ◌∷◌, ◌++◌, length, get_or, take, Some, option_map, refl, sym, ap, subst, ◌∙◌, arith}
use Rattle.std.specs.Prelude.{slice_range}
use Rattle.std.specs.Str.Parse.{AllDigits, IsNumeral, digits_value}
use Rattle.std.proofs.Math.Nat.{pow-le-pow_right}
use Rattle.std.proofs.lemmas.Bool.{lt-ltb}
use Rattle.std.proofs.lemmas.List.{append-nil, get_or_past, take_all}
use Rattle.std.proofs.lemmas.Int.Digits.{digits_value-lt}
use Rattle.fast_float.specs.Text.{scan, dot, minus, digits_end, exponent_start, has_exponent, Parts}
use Rattle.fast_float.proofs.Integers.{digits_len_all}
use Rattle.serde_json.specs.Find.{as_u64}
use Rattle.serde_json.specs.Read.{number_of, number_from}

pub number_of-signed : (s ds : List ℕ) → s ≡ 45 ∷ ds → number_of s ≡ number_from true (scan ds)
unfolding number_of
number_of-signed s ds e = rw e refl

pub number_of-unsigned : (s : List ℕ) (c : ℕ) (ds : List ℕ) → s ≡ c ∷ ds → (c == 45) ≡ false → number_of s ≡ number_from false (scan s)
unfolding number_of
number_of-unsigned s c ds e other = rw (e, other) refl

pub number_of-empty : (s : List ℕ) → s ≡ [] → number_of s ≡ number_from false (scan s)
unfolding number_of
number_of-empty s e = rw e refl

pub nothing_left : (s : List ℕ) → length s ≡ 0 → s ≡ []
nothing_left [] e = refl
nothing_left (x ∷ s) e = absurd (omega (arith, e))

-- The parts of a text that consists of digits. All the digits are in the whole part.
abbrev digits_alone : List ℕ → Parts
digits_alone bs = record { whole = bs; point = false; fraction = []; exponent_negative = false; exponent = []; len = length bs }

-- The parts into which `scan` cuts a text whose whole part ends at `a`.
abbrev parts_at : List ℕ → ℕ → Parts
parts_at bs a =
    let point = get_or bs a 0 == dot in
    let b = if point then digits_end bs (a + 1) else a in
    let c = exponent_start bs b in
    record {
      whole = slice_range bs 0 a;
      point = point;
      fraction = if point then slice_range bs (a + 1) b else [];
      exponent_negative = has_exponent bs b && get_or bs (b + 1) 0 == minus;
      exponent = if has_exponent bs b then slice_range bs c (digits_end bs c) else [];
      len = if has_exponent bs b then digits_end bs c else b;
    }

scan_is : (bs : List ℕ) → scan bs ≡ parts_at bs (digits_end bs 0)
unfolding scan
scan_is bs = refl

scan_end : (bs : List ℕ) → AllDigits 10 bs → digits_end bs 0 ≡ length bs
scan_end bs ds = omega (arith, digits_len_all bs ds)

parts_alone : (bs : List ℕ) → parts_at bs (length bs) ≡ digits_alone bs
parts_alone bs =
    let past : get_or bs (length bs) 0 ≡ 0 = get_or_past bs (length bs) 0 (omega arith) in
    let all : take (length bs) bs ≡ bs = take_all (length bs) bs (omega arith) in
    let less : length bs - 0 ≡ length bs = omega arith in
    simp (past, less, all)

scan_of_digits : (bs : List ℕ) → AllDigits 10 bs → scan bs ≡ digits_alone bs
scan_of_digits bs ds = scan_is bs ∙ ap (parts_at bs) (scan_end bs ds) ∙ parts_alone bs

-- A number with at most `k` digits is below 10^k.
pub few_digits_fit : (bs : List ℕ) (k : ℕ) → AllDigits 10 bs → length bs ≤ k → digits_value 10 bs < 10 ^ k
few_digits_fit bs k ds few =
    let below = digits_value-lt 10 bs ds in
    let more : 10 ^ length bs ≤ 10 ^ k = pow-le-pow_right {n = 10} (omega arith) few in
    omega arith

number_of_parts : (bs : List ℕ) → 0 < length bs → digits_value 10 bs < 2 ^ 64 → option_map as_u64 (number_from false (digits_alone bs)) ≡ Some (Some (digits_value 10 bs))
number_of_parts bs some small =
    let one : nat_lt 0 (length bs) ≡ true = lt-ltb _ _ some in
    let whole : bs ++ [] ≡ bs = append-nil bs in
    let fits : nat_lt (digits_value 10 bs) (2 ^ 64) ≡ true = lt-ltb _ _ small in
    simp (one, whole, fits)

pub number_of-digits : (bs : List ℕ) (n : ℕ) → IsNumeral 10 bs → n < 2 ^ 64 → n ≡ digits_value 10 bs → Some (Some n) ≡ option_map as_u64 (number_from false (scan bs))
number_of-digits bs n numeral small is =
    ap (λ m. Some (Some m)) is ∙ sym (number_of_parts bs numeral.0 (subst (λ m. m < 2 ^ 64) is small))
    ∙ ap (λ p. option_map as_u64 (number_from false p)) (sym (scan_of_digits bs numeral.1))

-- If a digit is added at the end of a text of digits, the text still consists of digits.
pub digits_more : (ds : List ℕ) (c : ℕ) → AllDigits 10 ds → AllDigits 10 (c ∷ []) → AllDigits 10 (ds ++ c ∷ [])
digits_more [] c all one = one
digits_more (d ∷ ds) c all one = (all.0, digits_more ds c all.1 one)
