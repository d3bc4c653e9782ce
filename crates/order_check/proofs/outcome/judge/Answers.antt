use Rattle.std.proofs.Common.{sym, subst}
use Rattle.order_check.specs.Orders.{IsOrderOf}
use Rattle.order_check.specs.Outcomes.{IsTxn, footprints_of}
use Rattle.order_check.specs.Timing.{since_in}
use Rattle.order_check.proofs.AccessOrder.{order_in_turn}
use Rattle.order_check.proofs.RealTimes.{timed_below}
use Rattle.order_check.proofs.outcome.judge.Goals as goal

pub returns-then-branch-clause-outcome : goal.returns-then-branch-clause-outcome
returns-then-branch-clause-outcome c =
    subst (IsOrderOf (IsTxn c.args.count) (footprints_of c.args.accesses.now) (since_in c.args.since.now)) (sym c.in_ok-places.ensures)
    (order_in_turn c.args.count (since_in c.args.since.now) c.args.accesses.now (timed_below c.args.count c.args.since.now c.requires.timing) c.requires.plain (c.in_ok-run_in_turn.ensures.0 c.if-branch.true))
