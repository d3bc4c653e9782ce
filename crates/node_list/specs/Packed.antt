-- The place of a node, or None, packed into one number.
use Rattle.std.specs.Prelude.{◌≡◌, ℕ, ◌-◌, ◌^◌, Option, Some, None, ◌==◌, if◌then◌else◌}
use Rattle.std.proofs.Common.{refl, sym, inl, inr, eq-eqb, ne_eqb}
use Rattle.std.proofs.lemmas.Bool.{cases_eq}

-- The place that a number of 32 bits stands for. The greatest such number stands for None.
abbrev pub unpacked : ℕ → Option ℕ
unpacked number = if number == 2 ^ 32 - 1 then None else Some number

-- The number that stands for a place or, if there is no place, for None.
abbrev pub packed : Option ℕ → ℕ
packed None = 2 ^ 32 - 1
packed (Some place) = place

-- A number that is unpacked and packed again is unchanged.
pub packed_unpacked : (number : ℕ) → packed (unpacked number) ≡ number
packed_unpacked number = elim (cases_eq number (2 ^ 32 - 1)) [
  | inl same ↦ rw (eq-eqb number (2 ^ 32 - 1) same) (sym same)
  | inr other ↦ rw (ne_eqb number (2 ^ 32 - 1) other) refl
]
