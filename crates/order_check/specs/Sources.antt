-- Where transactions get the values that they need.
use Rattle.std.specs.Prelude.{ℕ, ◌≡◌, ◌≢◌, ◌<◌, Option, Some, None, List}
use Rattle.order_check.specs.Lists.{IsIn, place}
use Rattle.order_check.specs.Footprints.{Cell, Footprint}
use Rattle.order_check.specs.Dependencies.{Writes}

-- For each transaction and key, the transaction that wrote the value that it needs there, or None if
-- the key is as it was at the beginning.
abbrev pub Sources : Type 0
Sources = ℕ → ℕ → Option ℕ

-- What the source gives is the value that is needed.
abbrev pub Gives : (ℕ → Footprint) → ℕ → Option ℕ → Option ℕ → Type 0
Gives footprints k need None = need ≡ None
Gives footprints k need (Some t) = Writes (footprints t) k need

-- Each transaction comes after the sources of what it needs, and before all others that replace what
-- it needs from these sources.
pub record KeepsSources (footprints : ℕ → Footprint) (source : Sources) (ts : List ℕ) : Type 0 where
  pub gives : (u k : ℕ) (cell : Cell) → IsIn u ts → footprints u k ≡ Some cell
      → Gives footprints k cell.need (source u k)
  pub reads : (u k t : ℕ) (cell : Cell) → IsIn u ts → footprints u k ≡ Some cell
      → source u k ≡ Some t → place t ts < place u ts
  pub replaces : (t u k : ℕ) (before after : Cell) → t ≢ u → IsIn t ts → IsIn u ts
      → footprints t k ≡ Some before → footprints u k ≡ Some after → source t k ≡ source u k
      → after.need ≢ after.now → place t ts < place u ts
