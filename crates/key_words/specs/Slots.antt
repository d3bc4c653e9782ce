-- The slots before the table is made.
use Rattle.std.specs.Prelude.{◌≡◌, ℕ, ◌<◌, List, length, slice_index_or, Option, Some, None}

-- There are `stripes` slots, one for each stripe, and each has its stripe's right.
abbrev pub AreLaid : ℕ → List (Option ℕ) → Type 0
AreLaid stripes slots = (length slots ≡ stripes)
    × ((stripe : ℕ) → stripe < stripes → slice_index_or slots stripe None ≡ Some stripe)
