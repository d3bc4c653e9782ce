use Rattle.std.proofs.Common.{◌<◌, length, get_or, subst, ap, ◌∙◌}
use Rattle.order_check.proofs.Shortening.{has_edge}
use Rattle.order_check.proofs.shortest.listed_edge.Goals as goal

pub returns-in-Some : goal.returns-in-Some
returns-in-Some c =
    let row = c.in_ok-row.ensures.lookup in
    let edge = c.in-Some.ensures.lookup in
    let same = c.deref.ensures.value in (
      c.if-edge-from.true,
      has_edge c.args.graph.now c.args.to c.args.index c.in_ok-row.row.now c.in-Some.edge.now row.3.0 row.1 (subst (λ ls. c.args.index < length ls) same edge.3.0) (edge.1 ∙ ap (λ ls. get_or ls c.args.index c.in-Some.edge.now) same),
    )
