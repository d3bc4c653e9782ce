use Rattle.std.proofs.Common.{refl, sym}
use Rattle.map_ops.proofs.SoundLemmas.{still_sound}
use Rattle.map_ops.proofs.KeepLemmas.{follows, takes_back}
use Rattle.map_ops.proofs.table.Table.undo.Goals as goal

pub invariant_of-self : goal.invariant_of-self
invariant_of-self c = still_sound c.self.inside.list c.restore.new.list c.self.inside.buckets c.self.invariant c.restore.ensures.follows c.restore.ensures.belong

pub returns-in-Ok-clause-undoes : goal.returns-in-Ok-clause-undoes
returns-in-Ok-clause-undoes c = rw (← c.self.view_is) (sym c.in-Ok.ensures.again, takes_back c.self.inside.list c.restore.new.list c.self.inside.buckets _ c.restore.ensures.back)

pub returns-in-Ok-clause-rises : goal.returns-in-Ok-clause-rises
returns-in-Ok-clause-rises c = rw (← c.self.view_is) c.restore.ensures.follows.changes

pub returns-in-Ok-clause-follows : goal.returns-in-Ok-clause-follows
returns-in-Ok-clause-follows c = rw (← c.self.view_is) (follows c.self.inside.list c.restore.new.list c.self.inside.buckets _ c.restore.ensures.follows)

pub returns-in-Ok-clause-writes : goal.returns-in-Ok-clause-writes
returns-in-Ok-clause-writes c = rw (← c.self.view_is) c.restore.ensures.writes

pub returns-in-Err-clause-writes : goal.returns-in-Err-clause-writes
returns-in-Err-clause-writes c = record { nodes = refl; changes = refl }
