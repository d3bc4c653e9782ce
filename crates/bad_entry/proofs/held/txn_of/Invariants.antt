use Rattle.std.proofs.Common.{◌≡◌, take}
use Rattle.bad_entry.specs.Desks.{txn_in}
use Rattle.bad_entry.proofs.held.txn_of.Given as goal

abbrev pub invariant-loop-packed : goal.invariant-loop-packed
invariant-loop-packed l = l.txn ≡ txn_in (take l.packed-index l.entries) l.caller
