use Rattle.order_check.proofs.Certain.{CertainTo}
use Rattle.order_check.proofs.outcome.keep_once.Given as goal

abbrev pub invariant-loop-row : goal.invariant-loop-row
invariant-loop-row l = CertainTo l.accesses l.writers l.graph l.row-index l.kept.items
