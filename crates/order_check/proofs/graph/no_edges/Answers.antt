use Rattle.order_check.proofs.Adding.{empty_more}
use Rattle.order_check.proofs.graph.no_edges.Goals as goal

pub loop-txn-preserved : goal.loop-txn-preserved
loop-txn-preserved c = empty_more c.loop-txn.txn c.loop-txn.graph.items c.push.new.self.items c.in_ok-with_capacity.field-0 c.loop-txn.invariant c.in_ok-with_capacity.ensures.items c.in_ok-push.ensures.items
