use Rattle.order_check.proofs.Choosing.{IsFirstOf}
use Rattle.order_check.proofs.choice.make_firsts.Given as goal

abbrev pub invariant-loop-index : goal.invariant-loop-index
invariant-loop-index l = IsFirstOf l.accesses l.index l.firsts
