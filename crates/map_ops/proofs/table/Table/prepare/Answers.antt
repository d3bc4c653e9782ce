use Rattle.map_ops.proofs.Vocabulary.{err_from_is_err_and}
use Rattle.map_ops.proofs.SoundLemmas.{sound_with_nodes}
use Rattle.map_ops.proofs.KeepLemmas.{follows, prepares}
use Rattle.map_ops.proofs.table.Table.prepare.Goals as goal

pub returns-in_err-plan-clause-err : goal.returns-in_err-plan-clause-err
returns-in_err-plan-clause-err c =
    let p = err_from_is_err_and c.from_residual.result c.from_residual.ensures.1 in
    rw (p.1, p.2, ← c.self.view_is) c.in_err-plan.ensures.err

pub invariant_of-self-2 : goal.invariant_of-self-2
invariant_of-self-2 c = sound_with_nodes c.self.inside.list c.plan.new.list c.self.inside.buckets c.self.invariant c.plan.ensures.follows c.in_ok-plan.ensures.ok.writes.nodes

pub returns-clause-ok : goal.returns-clause-ok
returns-clause-ok c = rw (c.new.ensures, ← c.self.view_is) (prepares c.self.inside.list c.plan.new.list c.self.inside.buckets _ _ c.in_ok-plan.ensures.ok)

pub returns-clause-follows : goal.returns-clause-follows
returns-clause-follows c = rw (← c.self.view_is) (follows c.self.inside.list c.plan.new.list c.self.inside.buckets _ c.plan.ensures.follows)
