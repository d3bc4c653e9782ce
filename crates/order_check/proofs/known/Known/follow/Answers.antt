use Rattle.std.proofs.Common.{sym, subst, ◌∙◌}
use Rattle.order_check.specs.Known.{AreKnown}
use Rattle.order_check.proofs.Knowing.{precedes_over}
use Rattle.order_check.proofs.known.Known.follow.Goals as goal
use Rattle.order_check.proofs.known.Known.follow.Goals.{then-is_before, else-is_before}

pub loop-second-preserved : goal.loop-second-preserved
loop-second-preserved c n since accesses were =
    let now = c.loop-second.invariant n since accesses were in
    elim c.if-is_before.branch [
      | then-is_before w ↦
          subst (AreKnown n since accesses) (sym w.self-is)
          (w.learn.ensures n since accesses now (precedes_over n since accesses c.args.first c.args.middle c.loop-second.second (were c.args.first c.args.middle c.requires) (now c.args.middle c.loop-second.second (sym c.is_before.ensures ∙ w.if-is_before.true))))
      | else-is_before w ↦ subst (AreKnown n since accesses) (sym w.self-is) now
    ]
