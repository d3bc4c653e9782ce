use Rattle.std.proofs.Common.{drop}
use Rattle.order_check.specs.InTurn.{value_in}
use Rattle.order_check.proofs.AccessOrder.{Turns}
use Rattle.order_check.proofs.in_turn.run_in_turn.Given as goal

abbrev pub invariant-loop-access : goal.invariant-loop-access
invariant-loop-access l = Turns l.accesses (value_in l.values) (drop l.access-index l.accesses)
