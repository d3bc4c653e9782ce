use Rattle.std.proofs.Common.{◌≡◌, ◌++◌, map}
use Rattle.std.specs.Map.Iter.{deref_pair}
use Rattle.order_check.specs.Accesses.{accesses_of}
use Rattle.order_check.proofs.gather.push_accesses.Given as goal

abbrev pub invariant-loop-key : goal.invariant-loop-key
invariant-loop-key l = l.accesses.items ≡ l.fn.accesses.items ++ accesses_of l.txn (map deref_pair l.yielded)
