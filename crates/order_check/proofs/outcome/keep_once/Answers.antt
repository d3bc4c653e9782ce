use Rattle.std.proofs.Common.{arith, ◌<◌, length, subst}
use Rattle.order_check.specs.Outcomes.{AreOnce}
use Rattle.order_check.proofs.Certain.{certain_more}
use Rattle.order_check.proofs.outcome.keep_once.Goals as goal

pub loop-row-preserved : goal.loop-row-preserved
loop-row-preserved c =
    let below : c.loop-row.row-index < length c.args.graph.now = omega arith in
    certain_more c.args.accesses.now c.args.writers.now c.args.graph.now c.loop-row.kept.items c.push.new.self.items c.loop-row.row-index c.row-item.result c.in_ok-keep_in.field-0 c.loop-row.invariant below c.row-item.is
    (subst (λ ls. AreOnce c.args.accesses.now c.args.writers.now ls c.in_ok-keep_in.field-0.items) c.deref.ensures.value c.in_ok-keep_in.ensures) c.in_ok-push.ensures.items
