use Rattle.std.specs.Prelude.{◌≡◌, ◌-◌}
use Rattle.striped_map.specs.Gathered.{written}
use Rattle.striped_map.specs.Records.{undone}
use Rattle.striped_map.specs.Steps.{placed}
use Rattle.striped_map.proofs.gather.put_undone.Given as goal

abbrev pub invariant-loop : goal.invariant-loop
invariant-loop l = written l.initial.table.items (placed l.at (undone l.number l.count l.last)) ≡ written l.table.items (placed l.next (undone l.number (l.count - l.counter) l.last))
