use Rattle.std.proofs.Common.{arith}
use Rattle.order_check.proofs.known.Known.learn_first.Goals as goal

pub loop-first-preserved : goal.loop-first-preserved
loop-first-preserved c n since accesses end were =
    let below = c.loop-first-test.true in
    c.learn.ensures n since accesses (c.loop-first.invariant n since accesses end were) (λ ts order. order.in_time c.loop-first.first c.args.second (omega arith))
