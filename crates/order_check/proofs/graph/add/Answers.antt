use Rattle.std.proofs.Common.{arith}
use Rattle.order_check.proofs.Adding.{adds}
use Rattle.order_check.proofs.graph.add.Goals as goal

pub returns : goal.returns
returns c = adds c.args.graph.now.items c.args.to c.index_mut.result.now c.push.new.self c.args.edge (omega (arith, c.args.graph.now.ok.0, c.requires)) c.index_mut.ensures.value c.in_ok-push.ensures.items
