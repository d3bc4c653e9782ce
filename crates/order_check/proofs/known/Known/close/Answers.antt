use Rattle.order_check.proofs.known.Known.close.Goals as goal

pub loop-middle-preserved : goal.loop-middle-preserved
loop-middle-preserved c n since accesses were = c.close_over.ensures n since accesses (c.loop-middle.invariant n since accesses were)
