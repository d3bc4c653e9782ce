use Rattle.std.specs.Prelude.{◌≡◌, take}
use Rattle.striped_map.specs.Gathered.{entries_in}
use Rattle.striped_map.proofs.gather.count_all.Given as goal

abbrev pub invariant-loop-place : goal.invariant-loop-place
invariant-loop-place l = l.count ≡ entries_in (take l.place l.theirs.items)
