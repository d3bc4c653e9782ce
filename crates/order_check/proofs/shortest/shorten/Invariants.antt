use Rattle.std.proofs.Common.{IfSome}
use Rattle.order_check.specs.Graphs.{IsRing}
use Rattle.order_check.specs.Timing.{Leads, since_in}
use Rattle.order_check.proofs.shortest.shorten.Given as goal

abbrev pub invariant-loop-turn : goal.invariant-loop-turn
invariant-loop-turn l =
    IfSome l.shortest (λ edges. IsRing (Leads (since_in l.since) l.graph) edges.items)
