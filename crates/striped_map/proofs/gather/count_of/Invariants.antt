use Rattle.std.specs.Prelude.{◌≡◌, take, length}
use Rattle.striped_map.specs.Records.{spread}
use Rattle.striped_map.proofs.gather.count_of.Given as goal

abbrev pub invariant-loop-place : goal.invariant-loop-place
invariant-loop-place l = l.count ≡ length (spread 0 (take l.place l.records.items))
