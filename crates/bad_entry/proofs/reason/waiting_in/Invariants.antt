use Rattle.std.proofs.Common.{take}
use Rattle.bad_entry.specs.Desks.{HaveNoted}
use Rattle.bad_entry.proofs.reason.waiting_in.Given as goal

abbrev pub invariant-loop-packed : goal.invariant-loop-packed
invariant-loop-packed l = HaveNoted (take l.packed-index l.entries) l.desks
