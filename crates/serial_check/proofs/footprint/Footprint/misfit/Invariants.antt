use Rattle.std.proofs.Common.{◌≡◌, ℕ, true, Some}
use Rattle.std.specs.Ordering.{nat_cmp}
use Rattle.std.specs.BTreeMap.{get as value_at}
use Rattle.serial_check.specs.declared.footprint.Cell.{Cell}
use Rattle.serial_check.specs.Kept.{cell_of}
use Rattle.serial_check.proofs.Loops.{asked}
use Rattle.serial_check.proofs.footprint.Footprint.misfit.Given as goal

abbrev pub invariant-loop-key : goal.invariant-loop-key
invariant-loop-key l = (k : ℕ) → asked k l.yielded ≡ true → (cell : Cell) → cell_of l.self k ≡ Some cell → value_at nat_cmp l.values k ≡ cell.need
