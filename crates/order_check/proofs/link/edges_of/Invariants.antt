use Rattle.std.proofs.Common.{◌≡◌, map, take}
use Rattle.order_check.specs.Joined.{edge_of}
use Rattle.order_check.proofs.link.edges_of.Given as goal

abbrev pub invariant-loop-link : goal.invariant-loop-link
invariant-loop-link l = l.edges.items ≡ map (edge_of l.accesses) (take l.link-index l.links)
