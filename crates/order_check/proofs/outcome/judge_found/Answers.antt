use Rattle.std.proofs.Common.{sym, subst}
use Rattle.std.specs.Option.{IfSome}
use Rattle.order_check.specs.Choices.{IsSourced}
use Rattle.order_check.specs.Outcomes.{AreAccesses, IsOutcome}
use Rattle.order_check.specs.Timing.{since_in}
use Rattle.order_check.proofs.Finishing.{accesses_same, outcome_same, if_ok_more}
use Rattle.order_check.proofs.outcome.judge_found.Goals as goal

pub judge_sourced-requires-clause-are : goal.judge_sourced-requires-clause-are
judge_sourced-requires-clause-are c =
    let found : IsSourced c.args.accesses.now c.in-Some.sourced.items = subst (λ o. IfSome o (λ sourced. IsSourced c.args.accesses.now sourced.items)) c.in-Some.is c.in_ok-sourced.ensures in
    subst (AreAccesses c.args.count) (sym c.deref.ensures.value) (accesses_same c.args.count c.args.accesses.now c.in-Some.sourced.items c.requires.plain found.0 found.1)

pub returns-in-Some : goal.returns-in-Some
returns-in-Some c =
    let found : IsSourced c.args.accesses.now c.in-Some.sourced.items = subst (λ o. IfSome o (λ sourced. IsSourced c.args.accesses.now sourced.items)) c.in-Some.is c.in_ok-sourced.ensures in
    if_ok_more (IsOutcome c.args.count (since_in c.args.since.now) c.deref.result.now) (IsOutcome c.args.count (since_in c.args.since.now) c.args.accesses.now) c.judge_sourced.result
    (λ outcome is. outcome_same c.args.count (since_in c.args.since.now) c.args.accesses.now c.in-Some.sourced.items outcome found.0 (subst (λ ys. IsOutcome c.args.count (since_in c.args.since.now) ys outcome) c.deref.ensures.value is)) c.judge_sourced.ensures
