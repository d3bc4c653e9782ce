use Rattle.std.proofs.Common.{arith}
use Rattle.std.proofs.lemmas.List.{get_or_read}
use Rattle.node_list.proofs.TallySteps.{region_within, region_there, group_there, region_fits, group_fits, summed, one_more_in}
use Rattle.node_list.proofs.tally.Tally.add.Goals as goal

pub overflow_add-index_mut : goal.overflow_add-index_mut
overflow_add-index_mut c =
    let small = region_within _ c.ranges.split.fits in
    let is = c.self.invariant in
    let there = get_or_read _ _ _ (region_there _ _ _ is _ small) c.index_mut.ensures.value 0 in
    let room = rw (← c.self.view_is) at c.requires in
    omega (arith, there, room, region_fits _ _ _ is _ small, group_fits _ _ _ is _ small)

pub overflow_add-index_mut-2 : goal.overflow_add-index_mut-2
overflow_add-index_mut-2 c =
    let small = region_within _ c.ranges.split.fits in
    let is = c.self.invariant in
    let there = get_or_read _ _ _ (group_there _ _ _ is _ small) c.index_mut-2.ensures.value 0 in
    let room = rw (← c.self.view_is) at c.requires in
    omega (arith, there, room, group_fits _ _ _ is _ small)

pub invariant_of-self : goal.invariant_of-self
invariant_of-self c =
    let small = region_within _ c.ranges.split.fits in
    let is = c.self.invariant in
    let in_region = get_or_read _ _ _ (region_there _ _ _ is _ small) c.index_mut.ensures.value 0 in
    let in_group = get_or_read _ _ _ (group_there _ _ _ is _ small) c.index_mut-2.ensures.value 0 in
    rw (in_region, in_group) (summed _ _ _ is _ small _ _ _ 0 1 (omega arith) (omega arith) (omega arith))

pub returns-clause-counts : goal.returns-clause-counts
returns-clause-counts c =
    let small = region_within _ c.ranges.split.fits in
    let is = c.self.invariant in
    let in_region = get_or_read _ _ _ (region_there _ _ _ is _ small) c.index_mut.ensures.value 0 in
    rw (← c.self.view_is, in_region) (one_more_in _ _ (region_there _ _ _ is _ small))
