use Rattle.std.proofs.Common.{◌∙◌, ap}
use Rattle.map_ops.specs.Vocabulary.{node_of}
use Rattle.map_ops.proofs.ChangeLemmas.{had, marks_sets, marks_node, marks_belong}
use Rattle.map_ops.proofs.change.mark_key.Goals as goal

pub mark_at-requires : goal.mark_at-requires
mark_at-requires c =
    let there = c.requires.there in
    record { node = there.node; is = ap (node_of c.args.list.now.nodes) there.place_is ∙ there.its.is; regular = there.its.kind; unmarked = there.its.unmarked }

pub returns-clause-was : goal.returns-clause-was
returns-clause-was c =
    let marks = c.mark_at.ensures.marks in
    had c.args.list.now c.mark_at.new.list c.args.key c.requires.sound (c.mark_at.ensures.follows.sound c.requires.sound) c.requires.belong _ _ _ c.requires.there marks.is marks.value_is

pub returns-clause-sets : goal.returns-clause-sets
returns-clause-sets c =
    marks_sets c.args.list.now c.mark_at.new.list c.args.key c.requires.sound (c.mark_at.ensures.follows.sound c.requires.sound) c.requires.belong _ _ c.requires.there c.mark_at.ensures.marks

pub returns-clause-writes : goal.returns-clause-writes
returns-clause-writes c =
    marks_node c.args.list.now c.mark_at.new.list c.args.key c.requires.sound (c.mark_at.ensures.follows.sound c.requires.sound) c.requires.belong _ _ c.requires.there c.mark_at.ensures.marks

pub returns-clause-belong : goal.returns-clause-belong
returns-clause-belong c =
    marks_belong c.args.list.now c.mark_at.new.list c.args.key c.requires.sound (c.mark_at.ensures.follows.sound c.requires.sound) c.requires.belong _ _ c.mark_at.ensures.marks
