use Rattle.script_worker.proofs.OutcomeSteps.{AllFollow}
use Rattle.script_worker.proofs.assigning.outcomes.Given as goal

abbrev pub invariant-loop-index : goal.invariant-loop-index
invariant-loop-index l =
    AllFollow l.fn.scripts.sizes.callers l.fn.scripts.scripts l.fn.entries l.index l.outcomes.items l.ways.items
