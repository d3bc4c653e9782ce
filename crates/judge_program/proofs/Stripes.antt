-- How many locks or branches a word asks for.
use Rattle.std.proofs.Common.{◌≡◌, ℕ, ◌<◌, ◌≤◌, ◌^◌, ◌&&◌, Bool, true, List, Option, Some, None, Result, Ok, Err, arith, sym, ap, ◌∙◌}
use Rattle.std.specs.Prelude.{if◌then◌else◌, nat_le, nat_lt, option_and_then}
use Rattle.std.specs.Result.{result_ok}
use Rattle.std.specs.Str.Parse.{ParsesUnsigned, digits_value, without_leading_plus}
use Rattle.std.proofs.lemmas.Bool.{and_parts, and_from, false_from_ne_true, le-leb, leb-true, lt-ltb, ltb-true}
use Rattle.program_system.specs.Words.{is_numeral}
use Rattle.program_system.proofs.Numerals.{numeral_to, numeral_from}
use Rattle.txn_words.specs.Sizes.{max_stripes}
use Rattle.judge_program.specs.Words.{number_in_word, stripes_in_word}

abbrev pub in_range : ℕ → Option ℕ
in_range n = if nat_le 1 n && nat_le n max_stripes then Some n else None

below : (n : ℕ) → (nat_le 1 n && nat_le n max_stripes) ≡ true → n < 2 ^ 64
below n fits =
    let most : n ≤ 4096 = leb-true n 4096 (and_parts (nat_le 1 n) _ fits).1 in
    omega arith

pub fits : (n : ℕ) → 1 ≤ n → n ≤ max_stripes → Some n ≡ in_range n
fits n low high = sym (ap (λ (b : Bool). if b then Some n else None) (and_from _ _ (le-leb 1 n low) (le-leb n max_stripes high)))

-- If the word is parsed as a number in range, it asks for that number of locks. Otherwise it asks
-- for no number of locks.
pub parsed : {E : Type 0} (word : List ℕ) (r : Result ℕ E) → ParsesUnsigned 64 10 word r → option_and_then in_range (result_ok r) ≡ stripes_in_word word
parsed word (Ok n) parses =
    let ds = without_leading_plus word in
    let stripes = digits_value 10 ds in
    ap in_range parses.1 ∙ sym (ap (λ (b : Bool). if b && (nat_le 1 stripes && nat_le stripes max_stripes) then Some stripes else None) (numeral_to ds parses.0.0))
parsed word (Err e) fails =
    let ds = without_leading_plus word in
    let stripes = digits_value 10 ds in
    let no : (is_numeral ds && (nat_le 1 stripes && nat_le stripes max_stripes)) ≡ true → ⊥ = λ is.
    let parts = and_parts (is_numeral ds) _ is in
    fails (numeral_from ds parts.0, below stripes parts.1)
    in sym (ap (λ (b : Bool). if b then Some stripes else None) (false_from_ne_true _ no))

-- A word that is parsed as a number stands for it.
pub number_parsed : {E : Type 0} (word : List ℕ) (r : Result ℕ E) → ParsesUnsigned 64 10 word r → result_ok r ≡ number_in_word word
number_parsed word (Ok n) parses =
    let ds = without_leading_plus word in
    let number = digits_value 10 ds in
    ap Some parses.1 ∙ sym (ap (λ (b : Bool). if b then Some number else None) (and_from (is_numeral ds) (nat_lt number (2 ^ 64)) (numeral_to ds parses.0.0) (lt-ltb number (2 ^ 64) parses.0.1)))
number_parsed word (Err e) fails =
    let ds = without_leading_plus word in
    let number = digits_value 10 ds in
    let no : (is_numeral ds && nat_lt number (2 ^ 64)) ≡ true → ⊥ = λ is.
    let parts = and_parts (is_numeral ds) _ is in
    fails (numeral_from ds parts.0, ltb-true number (2 ^ 64) parts.1)
    in sym (ap (λ (b : Bool). if b then Some number else None) (false_from_ne_true _ no))
