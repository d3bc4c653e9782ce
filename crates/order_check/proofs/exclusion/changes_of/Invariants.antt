use Rattle.std.proofs.Common.{take}
use Rattle.order_check.specs.Exclusions.{AreChanges}
use Rattle.order_check.proofs.exclusion.changes_of.Given as goal

abbrev pub invariant-loop-access : goal.invariant-loop-access
invariant-loop-access l = AreChanges (take l.access-index l.accesses) l.key l.changes.items
