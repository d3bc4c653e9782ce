-- A word is a numeral exactly if `parse` reads it as one.
use Rattle.std.proofs.Common.{◌≡◌, ℕ, true, List, [], ◌∷◌, length, refl}
use Rattle.std.specs.Prelude.{nat_lt}
use Rattle.std.specs.List.{list_all}
use Rattle.std.specs.Char.{digit_value}
use Rattle.std.specs.Str.Parse.{AllDigits, IsNumeral}
use Rattle.std.proofs.lemmas.Bool.{and_parts, and_from, ltb-true, lt-ltb}
use Rattle.program_system.specs.Words.{is_numeral}

digits_to : (ds : List ℕ) → AllDigits 10 ds → list_all (λ c. nat_lt (digit_value c) 10) ds ≡ true
digits_to [] all = refl
digits_to (c ∷ cs) all = and_from _ _ (lt-ltb (digit_value c) 10 all.0) (digits_to cs all.1)

digits_from : (ds : List ℕ) → list_all (λ c. nat_lt (digit_value c) 10) ds ≡ true → AllDigits 10 ds
digits_from [] all = tt
digits_from (c ∷ cs) all =
    let parts = and_parts _ _ all in (ltb-true (digit_value c) 10 parts.0, digits_from cs parts.1)

pub numeral_to : (ds : List ℕ) → IsNumeral 10 ds → is_numeral ds ≡ true
numeral_to ds is = and_from _ _ (lt-ltb 0 (length ds) is.0) (digits_to ds is.1)

pub numeral_from : (ds : List ℕ) → is_numeral ds ≡ true → IsNumeral 10 ds
numeral_from ds is =
    let parts = and_parts (nat_lt 0 (length ds)) _ is in
    (ltb-true 0 (length ds) parts.0, digits_from ds parts.1)
