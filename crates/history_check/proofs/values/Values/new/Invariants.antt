use Rattle.std.proofs.Common.{◌≡◌, vec_len}
use Rattle.std.specs.List.{All}
use Rattle.std.specs.BTreeMap.{IsEmpty}
use Rattle.history_check.proofs.values.Values.new.Given as goal

abbrev pub invariant-loop : goal.invariant-loop
invariant-loop l = record {
  count : vec_len l.maps ≡ l.counter;
  bare : All IsEmpty l.maps.items;
}
