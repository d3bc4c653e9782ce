use Rattle.std.proofs.Common.{◌≡◌, map, take}
use Rattle.order_check.specs.Named.{name_at}
use Rattle.order_check.proofs.naming.names_at.Given as goal

abbrev pub invariant-loop-place : goal.invariant-loop-place
invariant-loop-place l = l.named.items ≡ map (name_at l.names) (take l.place-index l.places)
