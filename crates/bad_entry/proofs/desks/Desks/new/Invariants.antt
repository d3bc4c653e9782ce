use Rattle.std.proofs.Common.{◌≡◌, vec_len}
use Rattle.std.specs.List.{All}
use Rattle.bad_entry.proofs.Noted.{IsFresh}
use Rattle.bad_entry.proofs.desks.Desks.new.Given as goal

abbrev pub invariant-loop : goal.invariant-loop
invariant-loop l = record {
  count : vec_len l.table ≡ l.counter;
  fresh : All IsFresh l.table.items;
}
