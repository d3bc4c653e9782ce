use Rattle.order_check.specs.Outcomes.{AreOnce}
use Rattle.order_check.proofs.outcome.keep_in.Given as goal

abbrev pub invariant-loop-edge : goal.invariant-loop-edge
invariant-loop-edge l = AreOnce l.accesses l.writers l.row l.kept.items
