use Rattle.map_ops.proofs.SweepLemmas.{sweep_belong, sweep_keeps}
use Rattle.map_ops.proofs.SoundLemmas.{still_sound}
use Rattle.map_ops.proofs.table.Table.sweep.Goals as goal

pub invariant_of-self : goal.invariant_of-self
invariant_of-self c = still_sound c.self.inside.list c.sweep_from.new.list c.self.inside.buckets c.self.invariant c.sweep_from.ensures.follows (sweep_belong c.self.inside.list c.sweep_from.new.list c.sweep_from.result c.sweep_from.ensures.sweeps c.self.invariant.belong)

pub returns-clause-keeps : goal.returns-clause-keeps
returns-clause-keeps c = rw (← c.self.view_is) (sweep_keeps c.self.inside.list c.sweep_from.new.list c.self.inside.buckets c.sweep_from.result c.self.invariant.sound c.sweep_from.ensures.sweeps c.sweep_from.ensures.content)

pub returns-clause-rises : goal.returns-clause-rises
returns-clause-rises c = rw (← c.self.view_is) c.sweep_from.ensures.follows.changes
