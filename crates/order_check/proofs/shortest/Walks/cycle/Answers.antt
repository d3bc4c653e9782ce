use Rattle.std.proofs.Common.{subst}
use mathlib.Core.Logic.{inr}
use Rattle.order_check.specs.Timing.{Leads, since_in}
use Rattle.order_check.proofs.CycleSearch.{Trail, comes_round}
use Rattle.order_check.proofs.Shortening.{trail_on}
use Rattle.order_check.proofs.shortest.Walks.cycle.Goals as goal

pub returns-then-from-self : goal.returns-then-from-self
returns-then-from-self c =
    let leads = Leads (since_in c.args.since.now) c.args.graph.now in
    let trail = trail_on leads c.args.self.now.start c.loop.from c.loop.place.to c.in-Some-edge_at.edge c.loop.edges.items c.push.new.self.items c.loop.invariant c.in-Some-edge_at.ensures.0 c.in-Some-edge_at.ensures.1 c.in_ok-push.ensures.items in
    comes_round leads c.args.self.now.start c.push.new.self.items (subst (Trail leads c.args.self.now.start c.push.new.self.items) c.if-from-self.true trail)

pub loop-preserved : goal.loop-preserved
loop-preserved c =
    inr (trail_on (Leads (since_in c.args.since.now) c.args.graph.now) c.args.self.now.start c.loop.from c.loop.place.to c.in-Some-edge_at.edge c.loop.edges.items c.push.new.self.items c.loop.invariant c.in-Some-edge_at.ensures.0 c.in-Some-edge_at.ensures.1 c.in_ok-push.ensures.items)
