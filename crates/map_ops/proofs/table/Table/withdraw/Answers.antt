use Rattle.map_ops.proofs.SoundLemmas.{sound_with_nodes}
use Rattle.map_ops.proofs.KeepLemmas.{follows, gives_back}
use Rattle.map_ops.proofs.table.Table.withdraw.Goals as goal

pub invariant_of-self : goal.invariant_of-self
invariant_of-self c = sound_with_nodes c.self.inside.list c.give_up.new.list c.self.inside.buckets c.self.invariant c.give_up.ensures.follows c.give_up.ensures.back.writes.nodes

pub returns-clause-back : goal.returns-clause-back
returns-clause-back c = rw (← c.into_spare.ensures, ← c.self.view_is) (gives_back c.self.inside.list c.give_up.new.list c.self.inside.buckets _ c.give_up.ensures.back)

pub returns-clause-follows : goal.returns-clause-follows
returns-clause-follows c = rw (← c.self.view_is) (follows c.self.inside.list c.give_up.new.list c.self.inside.buckets _ c.give_up.ensures.follows)
