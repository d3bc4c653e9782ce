-- Rights to stripes, by their numbers.
use Rattle.std.specs.Prelude.{◌≡◌, ℕ, ◌<◌, List, length, slice_index}

-- The list has the rights to all stripes, one for each, in the order of the stripes' numbers.
abbrev pub AreAll : ℕ → List ℕ → Type 0
AreAll stripes rights =
    (length rights ≡ stripes)
    × ((stripe : ℕ) → stripe < stripes → slice_index rights stripe ≡ stripe)
