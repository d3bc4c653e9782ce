use Rattle.std.proofs.Common.{take}
use Rattle.history_check.specs.Fed.{IsFed}
use Rattle.bad_entry.proofs.due.fed_by_locks.Given as goal

abbrev pub invariant-loop-entry : goal.invariant-loop-entry
invariant-loop-entry l = IsFed l.fn.holder l.stripes (take l.entry-index l.entries) l.checker
