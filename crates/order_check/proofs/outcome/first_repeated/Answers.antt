use Rattle.std.proofs.Common.{arith, ◌<◌, ◌≤◌, length, sym, ◌∙◌}
use Rattle.order_check.proofs.Turning.{once_more, once_all}
use Rattle.order_check.proofs.outcome.first_repeated.Goals as goal

pub loop-edge-preserved : goal.loop-edge-preserved
loop-edge-preserved c =
    let below : c.loop-edge.edge-index < length c.args.edges.now = omega arith in
    once_more c.args.accesses.now c.args.writers.now c.args.edges.now c.loop-edge.edge-index _ below c.loop-edge.invariant (sym c.is_once.ensures ∙ c.if-not-is_once.false)

pub returns-clause-none : goal.returns-clause-none
returns-clause-none c none =
    let end : length c.args.edges.now ≤ c.loop-edge.edge-index = omega arith in
    once_all c.args.accesses.now c.args.writers.now c.args.edges.now c.loop-edge.edge-index end c.loop-edge.invariant
