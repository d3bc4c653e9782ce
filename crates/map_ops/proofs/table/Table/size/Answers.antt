use Rattle.map_ops.specs.Vocabulary.{pairs}
use Rattle.map_ops.proofs.ContentLemmas.{ordered-map_of, rises-pairs}
use Rattle.map_ops.proofs.table.Table.size.Goals as goal

pub returns-clause-ordered : goal.returns-clause-ordered
returns-clause-ordered c = rw (← c.self.view_is) (ordered-map_of (pairs c.self.inside.list.nodes) (rises-pairs c.self.inside.list.nodes c.self.invariant.sound.rising c.self.invariant.belong.keyed))

pub returns-clause-list : goal.returns-clause-list
returns-clause-list c = rw (← c.self.view_is) c.self.invariant.sound
