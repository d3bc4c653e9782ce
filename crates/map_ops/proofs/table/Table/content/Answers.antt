use Rattle.std.proofs.Common.{◌∙◌}
use Rattle.map_ops.specs.Vocabulary.{pairs}
use Rattle.map_ops.proofs.MadeLemmas.{made}
use Rattle.map_ops.proofs.table.Table.content.Goals as goal

pub returns : goal.returns
returns c = rw (← c.self.view_is) (made c.map_of.result c.deref.result.now (pairs c.self.inside.list.nodes) (c.deref.ensures.value ∙ c.in_ok-pairs.ensures) c.map_of.ensures)
