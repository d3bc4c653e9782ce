use Rattle.std.proofs.Common.{ℕ, List}
use Rattle.order_check.specs.declared.access.Access.{Access}
use Rattle.order_check.specs.Known.{AreKnown}
use Rattle.order_check.proofs.known.Known.close_over.Given as goal

abbrev pub invariant-loop-first : goal.invariant-loop-first
invariant-loop-first l = (n : ℕ) (since : ℕ → ℕ) (accesses : List Access) → AreKnown n since accesses l.initial.self → AreKnown n since accesses l.self
