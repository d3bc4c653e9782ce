use Rattle.std.proofs.Common.{◌≡◌, take, None}
use Rattle.std.specs.List.{fold}
use Rattle.bad_entry.specs.Holding.{next_holder}
use Rattle.bad_entry.proofs.held.holder_in.Given as goal

abbrev pub invariant-loop-packed : goal.invariant-loop-packed
invariant-loop-packed l = l.held ≡ fold (next_holder l.stripes l.stripe) None (take l.packed-index l.entries)
