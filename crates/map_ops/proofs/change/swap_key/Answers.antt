use Rattle.std.proofs.Common.{◌∙◌, ap}
use Rattle.map_ops.specs.Vocabulary.{node_of}
use Rattle.map_ops.proofs.ChangeLemmas.{had, swaps_sets, swaps_node, swaps_belong}
use Rattle.map_ops.proofs.change.swap_key.Goals as goal

pub swap_at-requires : goal.swap_at-requires
swap_at-requires c =
    let there = c.requires.there in
    record { node = there.node; is = ap (node_of c.args.list.now.nodes) there.place_is ∙ there.its.is; regular = there.its.kind; unmarked = there.its.unmarked }

pub returns-clause-was : goal.returns-clause-was
returns-clause-was c =
    let swaps = c.swap_at.ensures.swaps in
    had c.args.list.now c.swap_at.new.list c.args.key c.requires.sound (c.swap_at.ensures.follows.sound c.requires.sound) c.requires.belong _ _ _ c.requires.there swaps.is swaps.value_is

pub returns-clause-sets : goal.returns-clause-sets
returns-clause-sets c =
    swaps_sets c.args.list.now c.swap_at.new.list c.args.key c.requires.sound (c.swap_at.ensures.follows.sound c.requires.sound) c.requires.belong _ _ _ c.requires.there c.swap_at.ensures.swaps

pub returns-clause-writes : goal.returns-clause-writes
returns-clause-writes c =
    swaps_node c.args.list.now c.swap_at.new.list c.args.key c.requires.sound (c.swap_at.ensures.follows.sound c.requires.sound) c.requires.belong _ _ _ c.requires.there c.swap_at.ensures.swaps

pub returns-clause-belong : goal.returns-clause-belong
returns-clause-belong c =
    swaps_belong c.args.list.now c.swap_at.new.list c.args.key c.requires.sound (c.swap_at.ensures.follows.sound c.requires.sound) c.requires.belong _ _ _ c.swap_at.ensures.swaps
