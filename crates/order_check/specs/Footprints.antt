-- Transactions as footprints, and their runs one after the other. A footprint has a cell for each
-- key that its transaction asked for (`serial_check`).
use Rattle.std.specs.Prelude.{ℕ, ◌≡◌, Option, None, List, [], ◌∷◌}
use Rattle.std.specs.Option.{IfSome}
use Rattle.txn_words.specs.declared.entry.Entry.{Entry}
use Rattle.serial_check.specs.Footprints.{Foots}
pub use Rattle.serial_check.specs.Footprints.{value_seen}
pub use Rattle.serial_check.specs.declared.footprint.Cell.{Cell}

-- The cell of each key, if the transaction asked for the key.
abbrev pub Footprint : Type 0
Footprint = ℕ → Option Cell

-- The value of each key, if the key is there.
abbrev pub Values : Type 0
Values = ℕ → Option ℕ

abbrev pub no_values : Values
no_values k = None

-- Each key with a cell has the value that the cell needs.
abbrev pub Meets : Footprint → Values → Type 0
Meets footprint vs = (k : ℕ) → IfSome (footprint k) (λ cell. vs k ≡ cell.need)

-- The values that a transaction leaves.
abbrev pub leaves : Footprint → Values → Values
leaves footprint vs k = value_seen (vs k) (footprint k)

-- The transactions `ts` run one after the other, the first one on the values `vs`. Each of them
-- finds the values that it needs.
abbrev pub RunsFrom : (ℕ → Footprint) → Values → List ℕ → Type 0
RunsFrom footprints vs [] = Unit {0}
RunsFrom footprints vs (t ∷ ts) =
    Meets (footprints t) vs × RunsFrom footprints (leaves (footprints t) vs) ts

-- The entries of a transaction have this footprint.
abbrev pub HasFootprint : List Entry → Footprint → Type 0
HasFootprint es footprint = Foots es footprint []
