use Rattle.std.proofs.Common.{ℕ, ◌∙◌, ap, sym}
use Rattle.map_ops.specs.Vocabulary.{limit_of, pairs}
use Rattle.bucket_table.specs.Answers as buckets
use Rattle.map_ops.proofs.ContentLemmas.{count_of-map_of, length-pairs, rises-pairs}
use Rattle.map_ops.proofs.table.Table.double.Goals as goal

pub returns-clause-answer : goal.returns-clause-answer
returns-clause-answer c =
    let count = sym (length-pairs c.self.inside.list.nodes) ∙ sym (count_of-map_of (pairs c.self.inside.list.nodes) (rises-pairs c.self.inside.list.nodes c.self.invariant.sound.rising c.self.invariant.belong.keyed)) in
    rw (← c.self.view_is) (c.double.ensures.answer ∙ ap (λ (n : ℕ). buckets.double_answer c.self.inside.buckets.size (limit_of c.self.inside.buckets) n c.args.seen) count)

pub returns-clause-changes : goal.returns-clause-changes
returns-clause-changes c = rw (← c.self.view_is) c.double.ensures.size
