use Rattle.std.proofs.Common.{◌∙◌, sym}
use Rattle.map_ops.specs.Vocabulary.{pairs}
use Rattle.map_ops.proofs.ContentLemmas.{count_of-map_of, length-pairs, rises-pairs}
use Rattle.map_ops.proofs.table.Table.count.Goals as goal

pub returns-clause-count : goal.returns-clause-count
returns-clause-count c = rw (← c.self.view_is) (c.count.ensures ∙ sym (length-pairs c.self.inside.list.nodes) ∙ sym (count_of-map_of (pairs c.self.inside.list.nodes) (rises-pairs c.self.inside.list.nodes c.self.invariant.sound.rising c.self.invariant.belong.keyed)))

pub returns-clause-length : goal.returns-clause-length
returns-clause-length c = rw (← c.self.view_is) (c.count.ensures ∙ sym (length-pairs c.self.inside.list.nodes))
