use Rattle.std.proofs.Common.{take}
use Rattle.order_check.specs.Fed.{IsFed}
use Rattle.judge_engine.proofs.order.fed_checker.Given as goal

abbrev pub invariant-loop-entry : goal.invariant-loop-entry
invariant-loop-entry l = IsFed l.real_time (take l.entry-index l.entries) l.checker
