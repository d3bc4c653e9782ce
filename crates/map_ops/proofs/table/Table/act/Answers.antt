use Rattle.std.proofs.Common.{refl, sym}
use Rattle.map_ops.proofs.SoundLemmas.{still_sound}
use Rattle.map_ops.proofs.KeepLemmas.{does, follows}
use Rattle.map_ops.proofs.table.Table.act.Goals as goal

pub invariant_of-self : goal.invariant_of-self
invariant_of-self c = still_sound c.self.inside.list c.change-reply.new.list c.self.inside.buckets c.self.invariant c.change-reply.ensures.follows c.change-reply.ensures.belong

pub returns-in-Ok-clause-acts : goal.returns-in-Ok-clause-acts
returns-in-Ok-clause-acts c =
    let done = rw c.into_plan-plan.ensures at c.change-reply.ensures.does in
    rw (← c.self.view_is) (sym c.in-Ok.ensures.again, does c.self.inside.list c.change-reply.new.list c.self.inside.buckets _ _ _ done)

pub returns-in-Ok-clause-rises : goal.returns-in-Ok-clause-rises
returns-in-Ok-clause-rises c = rw (← c.self.view_is) c.change-reply.ensures.follows.changes

pub returns-in-Ok-clause-follows : goal.returns-in-Ok-clause-follows
returns-in-Ok-clause-follows c = rw (← c.self.view_is) (follows c.self.inside.list c.change-reply.new.list c.self.inside.buckets _ c.change-reply.ensures.follows)

pub returns-in-Ok-clause-writes : goal.returns-in-Ok-clause-writes
returns-in-Ok-clause-writes c =
    let writes = rw c.into_plan-plan.ensures at c.change-reply.ensures.writes in
    rw (← c.self.view_is) writes

pub returns-in-Err-clause-writes : goal.returns-in-Err-clause-writes
returns-in-Err-clause-writes c = record { nodes = refl; changes = refl }
