use Rattle.std.proofs.Common.{rules, of_calls}
use Rattle.txn_drive.proofs.TurnLemmas.{after_placed, after_other}
use Rattle.txn_drive.proofs.turn.Turn.take.Goals as goal

pub steps-preserved-in-Placed : goal.steps-preserved-in-Placed
steps-preserved-in-Placed g c =
    after_placed _ _ _ _ c.steps.step _ c.steps.next c.steps.second _ _ c.in-Some.now c.step.result c.in-Some.is c.take-next.ensures.value
    c.take-next.ensures.after c.in-Placed.is (search (rules, of_calls)) c.steps.invariant

pub steps-preserved : goal.steps-preserved
steps-preserved g c =
    after_other _ _ _ _ c.steps.step _ c.steps.next c.steps.second _ c.in-Some.now c.step.result c.in-Some.is c.in_default-step.not-Placed
    (search (rules, of_calls)) c.steps.invariant
