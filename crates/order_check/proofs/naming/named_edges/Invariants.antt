use Rattle.std.proofs.Common.{◌≡◌, map, take}
use Rattle.order_check.specs.Named.{named_edge}
use Rattle.order_check.proofs.naming.named_edges.Given as goal

abbrev pub invariant-loop-edge : goal.invariant-loop-edge
invariant-loop-edge l = l.named.items ≡ map (named_edge l.names) (take l.edge-index l.edges)
