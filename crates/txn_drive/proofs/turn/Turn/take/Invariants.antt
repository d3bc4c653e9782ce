use Rattle.txn_drive.proofs.TurnLemmas.{Rest, left_of}
use Rattle.txn_drive.proofs.turn.Turn.take.Given as goal

-- The remaining steps may be taken, and with them the turn is complete.
abbrev pub invariant-steps : goal.invariant-steps
invariant-steps g l =
    Rest (λ f s. goal.F-pre g f s) (λ f s answer e. goal.F-step g f s answer e) l.initial.step l.fn.self l.step l.next l.second

abbrev pub decreases-steps : goal.decreases-steps
decreases-steps g l = left_of l.next l.second
