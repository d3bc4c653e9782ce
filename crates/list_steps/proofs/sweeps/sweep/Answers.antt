use Rattle.list_steps.proofs.SweepLemmas.{head_before_marks}
use Rattle.list_steps.proofs.sweeps.sweep.Goals as goal

pub sweep_from-requires : goal.sweep_from-requires
sweep_from-requires c = rw c.head-head.ensures.place (head_before_marks _ c.head-head.ensures.sound)
