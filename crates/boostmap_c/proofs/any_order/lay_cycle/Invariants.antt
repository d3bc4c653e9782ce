use Rattle.std.proofs.Common.{◌≡◌, length, take, drop, map}
use Rattle.boostmap_c.specs.AnyOrders.{link_of}
use Rattle.boostmap_c.proofs.any_order.lay_cycle.Given as goal

abbrev pub invariant-lays : goal.invariant-lays
invariant-lays l =
    (length l.links ≡ length l.fn.links) × (take l.i l.links ≡ map link_of (take l.i l.edges))
    × (drop l.i l.links ≡ drop l.i l.fn.links)
