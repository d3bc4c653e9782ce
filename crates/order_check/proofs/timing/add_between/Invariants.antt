use Rattle.order_check.proofs.Times.{AddsSome}
use Rattle.order_check.proofs.timing.add_between.Given as goal

abbrev pub invariant-loop-from : goal.invariant-loop-from
invariant-loop-from l = AddsSome l.start l.from l.end l.to l.initial.graph.items l.graph.items
