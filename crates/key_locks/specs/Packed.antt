-- An optional number, packed into one number.
use Rattle.std.specs.Prelude.{◌≡◌, ℕ, Option, Some, None, ◌==◌, if◌then◌else◌}
use Rattle.std.proofs.Common.{refl, sym, inl, inr, eq-eqb, ne_eqb}
use Rattle.std.proofs.lemmas.Bool.{cases_eq}

-- The option that a number stands for. The number `none` stands for None, and any other number
-- stands for itself.
abbrev pub unpacked : ℕ → ℕ → Option ℕ
unpacked none number = if number == none then None else Some number

-- The number that stands for an option. The number `none` stands for None, and any other number
-- stands for itself.
abbrev pub packed : ℕ → Option ℕ → ℕ
packed none None = none
packed none (Some number) = number

-- A number that is unpacked and packed again is unchanged.
pub packed_unpacked : (none number : ℕ) → packed none (unpacked none number) ≡ number
packed_unpacked none number = elim (cases_eq number none) [
  | inl same ↦ rw (eq-eqb number none same) (sym same)
  | inr other ↦ rw (ne_eqb number none other) refl
]
