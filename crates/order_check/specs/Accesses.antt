-- The accesses that a footprint gives.
use Rattle.std.specs.Prelude.{ℕ, Bool, ◌&&◌, Option, Some, None, is_none, List, map, if◌then◌else◌}
use Rattle.order_check.specs.declared.access.Access.{Access}
use Rattle.order_check.specs.Footprints.{Cell}

-- The access of a transaction to a key with this cell.
abbrev pub access_of : ℕ → ℕ × Cell → Access
access_of txn pair = record {
  txn = txn;
  key = pair.0;
  need = pair.1.need;
  left = pair.1.now;
  source = None;
}

-- The accesses of a transaction with these cells.
abbrev pub accesses_of : ℕ → List (ℕ × Cell) → List Access
accesses_of txn cells = map (access_of txn) cells

-- The first torn transaction, after one more transaction.
abbrev pub first_torn : Option ℕ → Bool → ℕ → Option ℕ
first_torn before torn txn = if is_none before && torn then Some txn else before
