use Rattle.std.proofs.Common.{◌≡◌, ℕ, List, [], Some, length}
use Rattle.std.specs.Prelude.{slice_get}
use Rattle.script_worker.specs.declared.way.Way.{Way}
use Rattle.script_worker.specs.Ways.{AreFresh}
use Rattle.script_worker.proofs.assigning.new_ways.Given as goal

abbrev pub invariant-loop-worker : goal.invariant-loop-worker
invariant-loop-worker l = AreFresh l.worker l.ways.items
