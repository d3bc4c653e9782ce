use Rattle.order_check.proofs.Replacing.{Replacing}
use Rattle.order_check.proofs.replacers.make_replacers.Given as goal

abbrev pub invariant-loop-access : goal.invariant-loop-access
invariant-loop-access l = Replacing l.accesses l.access-index l.replacers
