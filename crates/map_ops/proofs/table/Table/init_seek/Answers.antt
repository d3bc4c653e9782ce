use Rattle.std.proofs.Common.{◌∙◌, ap}
use Rattle.map_ops.specs.Buckets.{answer_for}
use Rattle.map_ops.proofs.BucketAnswers.{seek_answers}
use Rattle.map_ops.proofs.BucketLemmas.{seek_changes, seek_linked, seek_even}
use Rattle.map_ops.proofs.KeepLemmas.{follows}
use Rattle.map_ops.proofs.table.Table.init_seek.Goals as goal

pub invariant_of-self : goal.invariant_of-self
invariant_of-self c = record {
  sound = c.init_seek.ensures.follows.sound c.self.invariant.sound;
  home = c.init_seek.ensures.home;
  belong = record {
    keyed = c.init_seek.ensures.keyed c.self.invariant.belong.keyed;
    even = seek_even c.self.inside.list c.init_seek.new.list c.self.inside.buckets c.init_seek.new.self c.args.helper c.args.bucket c.init_seek.result c.init_seek.ensures.changes c.self.invariant.belong.even;
  };
}

pub returns-clause-answer : goal.returns-clause-answer
returns-clause-answer c = rw (← c.self.view_is) (c.answer_for.ensures ∙ ap answer_for c.init_seek.ensures.answer ∙ seek_answers c.self.inside.buckets c.args.helper c.args.bucket)

pub returns-clause-changes : goal.returns-clause-changes
returns-clause-changes c = rw (c.answer_for.ensures, ← c.self.view_is) (seek_changes c.self.inside.list c.init_seek.new.list c.self.inside.buckets c.init_seek.new.self c.args.helper c.args.bucket c.init_seek.result c.init_seek.ensures.changes)

pub returns-clause-regular : goal.returns-clause-regular
returns-clause-regular c = rw (← c.self.view_is) c.init_seek.ensures.content

pub returns-clause-linked : goal.returns-clause-linked
returns-clause-linked c = rw (← c.self.view_is) (seek_linked c.self.inside.list c.init_seek.new.list c.self.inside.buckets c.init_seek.new.self c.args.helper c.args.bucket c.init_seek.result c.init_seek.ensures.changes c.init_seek.ensures.dummies)

pub returns-clause-rises : goal.returns-clause-rises
returns-clause-rises c = rw (← c.self.view_is) c.init_seek.ensures.follows.changes

pub returns-clause-follows : goal.returns-clause-follows
returns-clause-follows c = rw (← c.self.view_is) (follows c.self.inside.list c.init_seek.new.list c.self.inside.buckets _ c.init_seek.ensures.follows)
