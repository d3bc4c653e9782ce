use Rattle.std.proofs.Common.{ℕ, List, take}
use Rattle.order_check.specs.declared.access.Access.{Access}
use Rattle.order_check.specs.Exclusions.{AreChanges, IsNarrowed}
use Rattle.order_check.specs.Known.{AreKnown}
use Rattle.order_check.proofs.exclusion.sources_left.Given as goal

abbrev pub invariant-loop-change : goal.invariant-loop-change
invariant-loop-change l = (n : ℕ) (since : ℕ → ℕ) (accesses : List Access) → AreKnown n since accesses l.known → AreChanges accesses l.access.key l.changes
    → IsNarrowed n since accesses l.access (take l.change-index l.changes) l.left
