-- The seed that a word spells.
use Rattle.std.proofs.Common.{◌≡◌, ℕ, ◌<◌, ◌^◌, ◌&&◌, Bool, true, List, [], ◌∷◌, Option, Some, None, Result, Ok, Err, refl, sym, ap, subst, ◌∙◌, drop, cond}
use Rattle.std.specs.Prelude.{if◌then◌else◌, nat_lt, slice_get}
use Rattle.std.specs.Result.{OkIff, result_ok}
use Rattle.std.specs.Str.Parse.{IsNumeral, digits_value, without_leading_plus, ParsesUnsigned}
use Rattle.std.proofs.lemmas.Bool.{and_parts, and_from, false_from_ne_true, ltb-true, lt-ltb, ne_eqb}
use Rattle.program_system.specs.Words.{is_numeral}
use Rattle.program_system.proofs.Numerals.{numeral_to, numeral_from}
use Rattle.command_line.specs.Words.{seed_of}

abbrev Fits : List ℕ → Type 0
Fits ds = IsNumeral 10 ds × (digits_value 10 ds < 2 ^ 64)

fits_to : (ds : List ℕ) → Fits ds → (is_numeral ds && nat_lt (digits_value 10 ds) (2 ^ 64)) ≡ true
fits_to ds fits = and_from _ _ (numeral_to ds fits.0) (lt-ltb _ _ fits.1)

fits_from : (ds : List ℕ) → (is_numeral ds && nat_lt (digits_value 10 ds) (2 ^ 64)) ≡ true → Fits ds
fits_from ds is =
    let parts = and_parts (is_numeral ds) _ is in (numeral_from ds parts.0, ltb-true _ _ parts.1)

pub parsed : {E : Type 0} (word : List ℕ) (r : Result ℕ E) → without_leading_plus word ≡ word → ParsesUnsigned 64 10 word r → result_ok r ≡ seed_of word
parsed {E} word r plain parses = by_cases r (subst (λ ds. OkIff r (Fits ds) (digits_value 10 ds)) plain parses)
  where
    seed_if : Bool → Option ℕ
    seed_if b = if b then Some (digits_value 10 word) else None

    by_cases : (r : Result ℕ E) → OkIff r (Fits word) (digits_value 10 word) → result_ok r ≡ seed_of word
    by_cases (Ok x) given = ap Some given.1 ∙ sym (ap seed_if (fits_to word given.0))
    by_cases (Err e) not_so = sym (ap seed_if (false_from_ne_true _ (λ is. not_so (fits_from word is))))

-- If a word does not begin with a plus, `without_leading_plus` leaves the word unchanged.
pub no_plus : (word : List ℕ) (first : Option ℕ) → first ≡ slice_get word 0 → (first ≡ Some 43 → ⊥) → without_leading_plus word ≡ word
no_plus [] first is other = refl
no_plus (c ∷ cs) first is other =
    ap (λ b. drop (cond b 1 0) (c ∷ cs)) (ne_eqb c 43 (λ plus. other (is ∙ ap Some plus)))
