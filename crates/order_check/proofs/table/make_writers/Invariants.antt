use Rattle.std.proofs.Common.{take}
use Rattle.order_check.specs.Tables.{AreWriters}
use Rattle.order_check.proofs.table.make_writers.Given as goal

abbrev pub invariant-loop-access : goal.invariant-loop-access
invariant-loop-access l = AreWriters (take l.access-index l.accesses) l.writers
