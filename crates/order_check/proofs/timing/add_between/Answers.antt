use Rattle.std.proofs.Common.{◌<◌, ◌≤◌, arith}
use Rattle.order_check.proofs.Times.{adds_all, adds_more, adds_none}
use Rattle.order_check.proofs.timing.add_between.Goals as goal

pub loop-from-init : goal.loop-from-init
loop-from-init c = adds_none c.args.start c.args.end c.args.to c.args.graph.now.items

pub loop-from-preserved : goal.loop-from-preserved
loop-from-preserved c =
    let below : c.loop-from.from < c.args.end = omega arith in
    adds_more c.args.start c.loop-from.from c.args.end c.args.to c.args.graph.now.items c.loop-from.graph.items c.add.new.graph.items c.time_edge.result below c.time_edge.ensures c.in_ok-add.ensures c.loop-from.invariant

pub returns : goal.returns
returns c =
    let past : c.args.end ≤ c.loop-from.from = omega arith in
    adds_all c.args.start c.loop-from.from c.args.end c.args.to c.args.graph.now.items c.loop-from.graph.items past c.loop-from.invariant
