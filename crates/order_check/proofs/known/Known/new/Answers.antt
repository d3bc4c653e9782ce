use Rattle.order_check.proofs.Knowing.{blank_more}
use Rattle.order_check.proofs.known.Known.new.Goals as goal

pub loop-preserved : goal.loop-preserved
loop-preserved c = blank_more c.loop.rows.items c.push.new.self.items c.in_ok-none_set.field-0 c.args.count c.loop.invariant c.in_ok-none_set.ensures c.in_ok-push.ensures.items
