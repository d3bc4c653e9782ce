use Rattle.std.proofs.Common.{ℕ, List}
use Rattle.order_check.specs.declared.access.Access.{Access}
use Rattle.order_check.specs.Known.{AreKnown}
use Rattle.order_check.proofs.known.Known.close.Given as goal

abbrev pub invariant-loop-middle : goal.invariant-loop-middle
invariant-loop-middle l = (n : ℕ) (since : ℕ → ℕ) (accesses : List Access) → AreKnown n since accesses l.initial.self → AreKnown n since accesses l.self
