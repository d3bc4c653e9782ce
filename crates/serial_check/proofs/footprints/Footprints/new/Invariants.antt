use Rattle.std.proofs.Common.{◌≡◌, vec_len}
use Rattle.std.specs.List.{All}
use Rattle.serial_check.specs.Kept.{IsFresh}
use Rattle.serial_check.proofs.footprints.Footprints.new.Given as goal

abbrev pub invariant-loop : goal.invariant-loop
invariant-loop l = record {
  count : vec_len l.table ≡ l.counter;
  fresh : All IsFresh l.table.items;
}
