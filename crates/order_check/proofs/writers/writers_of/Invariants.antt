use Rattle.std.proofs.Common.{◌≡◌, map, take, filter}
use Rattle.order_check.specs.Writers.{does_write, named_by}
use Rattle.order_check.proofs.writers.writers_of.Given as goal

abbrev pub invariant-loop-access : goal.invariant-loop-access
invariant-loop-access l = l.writers.items ≡ map (named_by l.names) (filter (does_write l.version) (take l.access-index l.accesses))
