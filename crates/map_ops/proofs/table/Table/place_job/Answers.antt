use Rattle.map_ops.proofs.SoundLemmas.{still_sound}
use Rattle.map_ops.proofs.KeepLemmas.{follows}
use Rattle.map_ops.proofs.table.Table.place_job.Goals as goal

pub invariant_of-self : goal.invariant_of-self
invariant_of-self c = still_sound c.self.inside.list c.seek_key.new.list c.self.inside.buckets c.self.invariant c.seek_key.ensures.follows c.seek_key.ensures.belong

pub returns-clause-rises : goal.returns-clause-rises
returns-clause-rises c = rw (← c.self.view_is) c.seek_key.ensures.rises

pub returns-clause-near : goal.returns-clause-near
returns-clause-near c =
    let near = rw c.key.ensures at c.seek_key.ensures.near in
    rw (← c.self.view_is) near

pub returns-clause-follows : goal.returns-clause-follows
returns-clause-follows c = rw (← c.self.view_is) (follows c.self.inside.list c.seek_key.new.list c.self.inside.buckets _ c.seek_key.ensures.follows)
