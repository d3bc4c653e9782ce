use Rattle.map_ops.proofs.KeepLemmas.{follows_twice}
use Rattle.map_ops.proofs.table.Table.apply.Goals as goal

pub returns-clause-follows : goal.returns-clause-follows
returns-clause-follows c = follows_twice _ _ _ c.prepare.ensures.follows (follows_twice _ _ _ c.place-cursor.ensures.follows c.act.ensures.follows)
