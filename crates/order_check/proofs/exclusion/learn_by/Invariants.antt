use Rattle.std.proofs.Common.{ℕ, List}
use Rattle.order_check.specs.declared.access.Access.{Access}
use Rattle.order_check.specs.Exclusions.{AreChanges, IsCertain}
use Rattle.order_check.specs.Known.{AreKnown}
use Rattle.order_check.proofs.exclusion.learn_by.Given as goal

abbrev pub invariant-loop-change : goal.invariant-loop-change
invariant-loop-change l = (n : ℕ) (since : ℕ → ℕ) (accesses : List Access) → AreKnown n since accesses l.fn.known → AreChanges accesses l.access.key l.changes
    → IsCertain n since accesses l.access l.source → AreKnown n since accesses l.known
