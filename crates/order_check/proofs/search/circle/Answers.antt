use Rattle.std.proofs.Common.{◌<◌, ◌≤◌, ◌-◌, length, arith, subst, get_or}
use Rattle.order_check.specs.Graphs.{HasEdge}
use Rattle.order_check.proofs.CycleSearch.{may_start, circle_here, at_back, u_below, u_visited, u_may_read, u_read, Trail, trail_more, collected_more, comes_round}
use Rattle.order_check.proofs.search.circle.Goals as goal

pub index-requires : goal.index-requires
index-requires c = may_start c.args.graph.now c.args.visits.now c.args.path.now c.requires.keeps c.requires.stuck c.index-graph-top.result c.index-graph-top.is

pub offset_bounds-graph-u : goal.offset_bounds-graph-u
offset_bounds-graph-u c =
    let circle = circle_here c.args.graph.now c.args.visits.now c.args.path.now c.requires.keeps c.requires.stuck c.index-graph-top.result c.index-graph-top.is c.index.result.now c.index.ensures in
    let less : c.loop-back.back < length c.args.path.now = omega arith in
    let below = u_below c.args.graph.now c.args.visits.now c.args.path.now c.index.result.now.from circle c.loop-back.back less in
    omega (arith, below)

pub bounds-graph-u : goal.bounds-graph-u
bounds-graph-u c =
    let circle = circle_here c.args.graph.now c.args.visits.now c.args.path.now c.requires.keeps c.requires.stuck c.index-graph-top.result c.index-graph-top.is c.index.result.now c.index.ensures in
    let less : c.loop-back.back < length c.args.path.now = omega arith in
    u_below c.args.graph.now c.args.visits.now c.args.path.now c.index.result.now.from circle c.loop-back.back less

pub offset_bounds-visits-u : goal.offset_bounds-visits-u
offset_bounds-visits-u c =
    let circle = circle_here c.args.graph.now c.args.visits.now c.args.path.now c.requires.keeps c.requires.stuck c.index-graph-top.result c.index-graph-top.is c.index.result.now c.index.ensures in
    let less : c.loop-back.back < length c.args.path.now = omega arith in
    let below = u_visited c.args.graph.now c.args.visits.now c.args.path.now c.index.result.now.from circle c.loop-back.back less in
    omega (arith, below)

pub bounds-visits-u : goal.bounds-visits-u
bounds-visits-u c =
    let circle = circle_here c.args.graph.now c.args.visits.now c.args.path.now c.requires.keeps c.requires.stuck c.index-graph-top.result c.index-graph-top.is c.index.result.now c.index.ensures in
    let less : c.loop-back.back < length c.args.path.now = omega arith in
    u_visited c.args.graph.now c.args.visits.now c.args.path.now c.index.result.now.from circle c.loop-back.back less

pub index-edge-requires : goal.index-edge-requires
index-edge-requires c =
    let circle = circle_here c.args.graph.now c.args.visits.now c.args.path.now c.requires.keeps c.requires.stuck c.index-graph-top.result c.index-graph-top.is c.index.result.now c.index.ensures in
    let less : c.loop-back.back < length c.args.path.now = omega arith in
    u_may_read c.args.graph.now c.args.visits.now c.args.path.now c.index.result.now.from circle c.loop-back.back less c.index-graph-u.result c.index-graph-u.is

pub loop-back-preserved : goal.loop-back-preserved
loop-back-preserved c =
    let circle = circle_here c.args.graph.now c.args.visits.now c.args.path.now c.requires.keeps c.requires.stuck c.index-graph-top.result c.index-graph-top.is c.index.result.now c.index.ensures in
    let less : c.loop-back.back < length c.args.path.now = omega arith in
    let read = u_read c.args.graph.now c.args.visits.now c.args.path.now c.index.result.now.from circle c.loop-back.back less c.index-graph-u.result c.index-graph-u.is c.index-edge.result.now c.index-edge.ensures in
    collected_more c.args.graph.now c.index.result.now.from c.args.path.now c.loop-back.back (get_or c.args.path.now (length c.args.path.now - 1 - c.loop-back.back) 0) c.index-edge.result.now c.loop-back.edges.items c.push.new.self.items c.loop-back.invariant read c.in_ok-push.ensures.items (at_back c.args.path.now c.loop-back.back less) c.if-u-start.false

pub returns-then-u-start : goal.returns-then-u-start
returns-then-u-start c =
    let circle = circle_here c.args.graph.now c.args.visits.now c.args.path.now c.requires.keeps c.requires.stuck c.index-graph-top.result c.index-graph-top.is c.index.result.now c.index.ensures in
    let less : c.loop-back.back < length c.args.path.now = omega arith in
    let read = u_read c.args.graph.now c.args.visits.now c.args.path.now c.index.result.now.from circle c.loop-back.back less c.index-graph-u.result c.index-graph-u.is c.index-edge.result.now c.index-edge.ensures in
    comes_round (HasEdge c.args.graph.now) c.index.result.now.from c.push.new.self.items (subst (Trail (HasEdge c.args.graph.now) c.index.result.now.from c.push.new.self.items) c.if-u-start.true (trail_more c.args.graph.now c.index.result.now.from c.args.path.now c.loop-back.back (get_or c.args.path.now (length c.args.path.now - 1 - c.loop-back.back) 0) c.index-edge.result.now c.loop-back.edges.items c.push.new.self.items c.loop-back.invariant read c.in_ok-push.ensures.items))

pub returns : goal.returns
returns c =
    let circle = circle_here c.args.graph.now c.args.visits.now c.args.path.now c.requires.keeps c.requires.stuck c.index-graph-top.result c.index-graph-top.is c.index.result.now c.index.ensures in
    let all : length c.args.path.now ≤ c.loop-back.back = omega arith in
    absurd (c.loop-back.invariant.unmet circle.met.0 (omega (arith, circle.met.1)) circle.met.2)
