use Rattle.order_check.specs.Known.{AreKnown}
use Rattle.order_check.specs.Timing.{since_in}
use Rattle.order_check.proofs.exclusion.find_impossible.Given as goal

abbrev pub invariant-loop : goal.invariant-loop
invariant-loop l = AreKnown l.count (since_in l.since) l.accesses l.known
