use Rattle.std.specs.Prelude.{◌≡◌, None, replicate}
use Rattle.striped_map.proofs.open.empty_records.Given as goal

abbrev pub invariant-loop : goal.invariant-loop
invariant-loop l = l.theirs.items ≡ replicate l.counter None
