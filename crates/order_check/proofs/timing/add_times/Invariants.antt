use Rattle.order_check.proofs.Times.{TimesSome}
use Rattle.order_check.proofs.timing.add_times.Given as goal

abbrev pub invariant-loop-txn : goal.invariant-loop-txn
invariant-loop-txn l = TimesSome l.since l.txn l.covered.items l.initial.graph.items l.graph.items
