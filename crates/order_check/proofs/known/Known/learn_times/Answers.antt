use Rattle.std.proofs.Common.{refl}
use Rattle.order_check.specs.Timing.{since_in}
use Rattle.order_check.proofs.known.Known.learn_times.Goals as goal

pub loop-second-preserved : goal.loop-second-preserved
loop-second-preserved c n accesses were = c.learn_first.ensures n (since_in c.args.since.now) accesses refl (c.loop-second.invariant n accesses were)
