use Rattle.order_check.specs.Timing.{Leads, since_in}
use Rattle.order_check.proofs.Shortening.{IsTrail}
use Rattle.order_check.proofs.shortest.Walks.cycle.Given as goal

abbrev pub invariant-loop : goal.invariant-loop
invariant-loop l = IsTrail (Leads (since_in l.since) l.graph) l.self.start l.edges.items l.from
