use Rattle.std.proofs.Common.{take}
use Rattle.order_check.specs.Fed.{IsFed}
use Rattle.order_check.proofs.history.check.Given as goal

abbrev pub invariant-loop-entry : goal.invariant-loop-entry
invariant-loop-entry l = IsFed l.fn.options.real_time (take l.entry-index l.entries) l.checker
