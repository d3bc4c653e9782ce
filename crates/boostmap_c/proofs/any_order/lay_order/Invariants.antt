use Rattle.std.proofs.Common.{◌≡◌, length, take, drop, map}
use Rattle.boostmap_c.specs.AnyOrders.{placed}
use Rattle.boostmap_c.proofs.any_order.lay_order.Given as goal

abbrev pub invariant-lays : goal.invariant-lays
invariant-lays l =
    (length l.links ≡ length l.fn.links) × (take l.i l.links ≡ map placed (take l.i l.order))
    × (drop l.i l.links ≡ drop l.i l.fn.links)
