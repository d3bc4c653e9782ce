use Rattle.std.proofs.Common.{◌≡◌, ◌∙◌}
use Rattle.map_ops.specs.Vocabulary.{ordered, pairs}
use Rattle.std.proofs.lemmas.Result.{IfOk-weaker}
use Rattle.map_ops.specs.TableAt.{map_of}
use Rattle.map_ops.proofs.ContentLemmas.{ordered-map_of, rises-pairs}
use Rattle.map_ops.proofs.table.Table.regular_list.Goals as goal

pub returns-clause-ordered : goal.returns-clause-ordered
returns-clause-ordered c =
    let is = ordered-map_of (pairs c.self.inside.list.nodes) (rises-pairs c.self.inside.list.nodes c.self.invariant.sound.rising c.self.invariant.belong.keyed) in
    rw (← c.self.view_is) (IfOk-weaker c.pairs_of.result (λ found. found.items ≡ pairs c.self.inside.list.nodes) (λ found. found.items ≡ ordered (map_of (pairs c.self.inside.list.nodes))) (λ found same. same ∙ is) c.pairs_of.ensures)
