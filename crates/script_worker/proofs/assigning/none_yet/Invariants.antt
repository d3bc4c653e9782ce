use Rattle.script_worker.specs.Ways.{AreNone}
use Rattle.script_worker.proofs.assigning.none_yet.Given as goal

abbrev pub invariant-loop-index : goal.invariant-loop-index
invariant-loop-index l = AreNone l._index l.outcomes.items
