use Rattle.order_check.specs.Growth.{AreEmpty}
use Rattle.order_check.proofs.graph.no_edges.Given as goal

abbrev pub invariant-loop-txn : goal.invariant-loop-txn
invariant-loop-txn l = AreEmpty l.txn l.graph.items
