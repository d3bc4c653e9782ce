use Rattle.std.proofs.Common.{sym, subst}
use Rattle.order_check.specs.Known.{AreKnown}
use Rattle.order_check.proofs.known.Known.close_over.Goals as goal
use Rattle.order_check.proofs.known.Known.close_over.Goals.{then-is_before, else-is_before}

pub loop-first-preserved : goal.loop-first-preserved
loop-first-preserved c n since accesses were =
    let now = c.loop-first.invariant n since accesses were in
    elim c.if-is_before.branch [
      | then-is_before w ↦ subst (AreKnown n since accesses) (sym w.self-is) (w.follow.ensures n since accesses now)
      | else-is_before w ↦ subst (AreKnown n since accesses) (sym w.self-is) now
    ]
