use Rattle.order_check.proofs.Knowing.{AreBlank}
use Rattle.order_check.proofs.known.Known.new.Given as goal

abbrev pub invariant-loop : goal.invariant-loop
invariant-loop l = AreBlank l.rows.items
