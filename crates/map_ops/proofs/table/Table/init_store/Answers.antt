use Rattle.std.proofs.Common.{◌∙◌, ap, sym}
use Rattle.map_ops.proofs.Vocabulary.{slice_get-map}
use Rattle.map_ops.specs.TableAt.{help_of}
use Rattle.map_ops.specs.Buckets.{answer_for}
use Rattle.map_ops.proofs.BucketAnswers.{store_answers, no_memory_alone, lacks_segment}
use Rattle.map_ops.proofs.BucketLemmas.{store_changes}
use Rattle.map_ops.proofs.table.Table.init_store.Goals as goal

pub invariant_of-self : goal.invariant_of-self
invariant_of-self c = record { sound = c.self.invariant.sound; home = c.init_store.ensures.home c.self.inside.list c.self.invariant.home; belong = c.self.invariant.belong }

pub returns-clause-answer : goal.returns-clause-answer
returns-clause-answer c = rw (← c.self.view_is) (λ other. c.answer_for.ensures ∙ ap answer_for (c.init_store.ensures.answer (λ is. other (c.answer_for.ensures ∙ ap answer_for is))) ∙ store_answers c.self.inside.buckets c.args.helper)

pub returns-clause-no_memory : goal.returns-clause-no_memory
returns-clause-no_memory c = rw (← c.self.view_is) (λ is. sym (store_answers c.self.inside.buckets c.args.helper) ∙ ap answer_for (c.init_store.ensures.no_memory (no_memory_alone c.init_store.result (sym c.answer_for.ensures ∙ is))))

pub returns-clause-lacks : goal.returns-clause-lacks
returns-clause-lacks c = rw (← c.self.view_is) (λ bucket had is.
    lacks_segment c.self.inside.buckets.entries bucket
    (c.init_store.ensures.lacks bucket (sym (slice_get-map help_of c.self.inside.buckets.helpers c.args.helper) ∙ had) (no_memory_alone c.init_store.result (sym c.answer_for.ensures ∙ is))))

pub returns-clause-changes : goal.returns-clause-changes
returns-clause-changes c = rw (c.answer_for.ensures, ← c.self.view_is) (store_changes c.self.inside.list c.self.inside.buckets c.init_store.new.self c.args.helper c.init_store.result c.init_store.ensures.changes)
