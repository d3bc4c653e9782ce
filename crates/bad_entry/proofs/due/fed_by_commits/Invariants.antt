use Rattle.std.proofs.Common.{take}
use Rattle.serial_check.specs.Fed.{IsFed}
use Rattle.bad_entry.proofs.due.fed_by_commits.Given as goal

abbrev pub invariant-loop-entry : goal.invariant-loop-entry
invariant-loop-entry l = IsFed (take l.entry-index l.entries) l.checker
