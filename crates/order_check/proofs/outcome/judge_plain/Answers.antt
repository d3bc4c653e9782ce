use Rattle.std.proofs.Common.{sym, subst}
use Rattle.order_check.specs.declared.choice.Choice.TheVariants.{Sourced, Unwritten}
use Rattle.order_check.specs.Choices.{IsChoice}
use Rattle.order_check.specs.Outcomes.{AreAccesses, IsOutcome}
use Rattle.order_check.specs.Timing.{since_in}
use Rattle.order_check.proofs.Finishing.{accesses_same, outcome_same, unwritten, if_ok_more}
use Rattle.order_check.proofs.outcome.judge_plain.Goals as goal

pub judge_sourced-requires-clause-are : goal.judge_sourced-requires-clause-are
judge_sourced-requires-clause-are c =
    let chosen : IsChoice c.args.accesses.now (Sourced c.in-Sourced.sourced) = subst (IsChoice c.args.accesses.now) c.in-Sourced.is c.in_ok-sourced.ensures in
    subst (AreAccesses c.args.count) (sym c.deref.ensures.value) (accesses_same c.args.count c.args.accesses.now c.in-Sourced.sourced.items c.requires.plain chosen.0 chosen.1)

pub returns-in-Sourced : goal.returns-in-Sourced
returns-in-Sourced c =
    let chosen : IsChoice c.args.accesses.now (Sourced c.in-Sourced.sourced) = subst (IsChoice c.args.accesses.now) c.in-Sourced.is c.in_ok-sourced.ensures in
    if_ok_more (IsOutcome c.args.count (since_in c.args.since.now) c.deref.result.now) (IsOutcome c.args.count (since_in c.args.since.now) c.args.accesses.now) c.judge_sourced.result
    (λ outcome is. outcome_same c.args.count (since_in c.args.since.now) c.args.accesses.now c.in-Sourced.sourced.items outcome chosen.0 (subst (λ ys. IsOutcome c.args.count (since_in c.args.since.now) ys outcome) c.deref.ensures.value is)) c.judge_sourced.ensures

pub returns-in-Unwritten : goal.returns-in-Unwritten
returns-in-Unwritten c =
    let chosen : IsChoice c.args.accesses.now (Unwritten c.in-Unwritten.access) = subst (IsChoice c.args.accesses.now) c.in-Unwritten.is c.in_ok-sourced.ensures in
    (chosen, unwritten c.args.count (since_in c.args.since.now) c.args.accesses.now c.in-Unwritten.access c.requires.plain chosen)
