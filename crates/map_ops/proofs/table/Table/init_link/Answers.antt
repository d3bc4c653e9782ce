use Rattle.std.proofs.Common.{◌∙◌, ap, sym, map}
use Rattle.map_ops.specs.Vocabulary.{slice_get}
use Rattle.map_ops.specs.TableAt.{help_of, linked_of, table_of}
use Rattle.map_ops.specs.Buckets.{answer_for, helper_fits}
use Rattle.map_ops.proofs.BucketAnswers.{link_answers, helper_still_fits, fits_not_again, no_memory_alone}
use Rattle.map_ops.proofs.BucketLemmas.{link_changes, link_even}
use Rattle.map_ops.proofs.table.Table.init_link.Goals as goal

pub invariant_of-self : goal.invariant_of-self
invariant_of-self c = record {
  sound = c.init_link.ensures.follows.sound c.self.invariant.sound;
  home = c.init_link.ensures.home;
  belong = record {
    keyed = c.init_link.ensures.keyed;
    even = link_even c.self.inside.list c.init_link.new.list c.self.inside.buckets c.init_link.new.self c.args.helper c.init_link.result c.init_link.ensures.sound c.init_link.ensures.changes c.self.invariant.belong.even;
  };
}

pub returns-clause-answer : goal.returns-clause-answer
returns-clause-answer c = rw (← c.self.view_is) (λ other. c.answer_for.ensures ∙ ap answer_for (c.init_link.ensures.answer (λ is. other (c.answer_for.ensures ∙ ap answer_for is))) ∙ link_answers c.self.inside.list c.self.inside.buckets c.args.helper c.init_link.ensures.sound)

pub returns-clause-no_memory : goal.returns-clause-no_memory
returns-clause-no_memory c = rw (← c.self.view_is) (λ is. sym (link_answers c.self.inside.list c.self.inside.buckets c.args.helper c.init_link.ensures.sound) ∙ ap answer_for (c.init_link.ensures.no_memory (no_memory_alone c.init_link.result (sym c.answer_for.ensures ∙ is))))

pub returns-clause-held : goal.returns-clause-held
returns-clause-held c = rw (← c.self.view_is) (λ bucket had below again.
    fits_not_again (helper_fits (table_of c.self.inside.list c.self.inside.buckets) c.args.helper) (linked_of (table_of c.self.inside.list c.self.inside.buckets)) c.self.inside.list.last bucket c.self.inside.list.changes (slice_get (map help_of c.self.inside.buckets.helpers) c.args.helper) had (helper_still_fits c.self.inside.list c.self.inside.buckets c.args.helper bucket c.self.invariant.home had below)
    (sym (link_answers c.self.inside.list c.self.inside.buckets c.args.helper c.init_link.ensures.sound) ∙ ap answer_for (sym (c.init_link.ensures.answer (λ refused. cc (sym again ∙ c.answer_for.ensures ∙ ap answer_for refused)))) ∙ sym c.answer_for.ensures ∙ again))

pub returns-clause-changes : goal.returns-clause-changes
returns-clause-changes c = rw (c.answer_for.ensures, ← c.self.view_is) (link_changes c.self.inside.list c.init_link.new.list c.self.inside.buckets c.init_link.new.self c.args.helper c.init_link.result c.init_link.ensures.changes)

pub returns-clause-regular : goal.returns-clause-regular
returns-clause-regular c = rw (← c.self.view_is) c.init_link.ensures.content

pub returns-clause-rises : goal.returns-clause-rises
returns-clause-rises c = rw (← c.self.view_is) c.init_link.ensures.follows.changes
