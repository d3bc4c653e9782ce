use Rattle.std.specs.Prelude.{◌≡◌, take}
use Rattle.striped_map.specs.Gathered.{written}
use Rattle.striped_map.specs.Records.{spread}
use Rattle.striped_map.proofs.gather.put_records.Given as goal

abbrev pub invariant-loop-place : goal.invariant-loop-place
invariant-loop-place l = l.table.items ≡ written l.initial.table.items (spread l.number (take l.place l.records.items))
