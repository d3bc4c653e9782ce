use Rattle.std.proofs.Common.{◌≡◌, ◌+◌, ◌-◌, ◌∙◌, arith}
use Rattle.std.proofs.lemmas.List.{get_or_read}
use Rattle.node_list.proofs.TallySteps.{region_within, region_there, group_there, region_fits, group_fits, summed, one_less_in}
use Rattle.node_list.proofs.tally.Tally.take_away.Goals as goal

pub overflow_sub-index_mut : goal.overflow_sub-index_mut
overflow_sub-index_mut c =
    let small = region_within _ c.ranges.split.fits in
    let is = c.self.invariant in
    let there = get_or_read _ _ _ (region_there _ _ _ is _ small) c.index_mut.ensures.value 0 in
    let some = rw (← c.self.view_is) at c.requires in
    omega (arith, there, some)

pub overflow_sub-index_mut-2 : goal.overflow_sub-index_mut-2
overflow_sub-index_mut-2 c =
    let small = region_within _ c.ranges.split.fits in
    let is = c.self.invariant in
    let there = get_or_read _ _ _ (group_there _ _ _ is _ small) c.index_mut-2.ensures.value 0 in
    let some = rw (← c.self.view_is) at c.requires in
    omega (arith, there, some, region_fits _ _ _ is _ small)

pub overflow_sub-self : goal.overflow_sub-self
overflow_sub-self c =
    let small = region_within _ c.ranges.split.fits in
    let is = c.self.invariant in
    let some = rw (← c.self.view_is) at c.requires in
    omega (arith, some, region_fits _ _ _ is _ small, group_fits _ _ _ is _ small)

pub invariant_of-self : goal.invariant_of-self
invariant_of-self c =
    let small = region_within _ c.ranges.split.fits in
    let is = c.self.invariant in
    let in_region = get_or_read _ _ _ (region_there _ _ _ is _ small) c.index_mut.ensures.value 0 in
    let in_group = get_or_read _ _ _ (group_there _ _ _ is _ small) c.index_mut-2.ensures.value 0 in
    let some = rw (← c.self.view_is) at c.requires in
    let group_some = region_fits _ _ _ is _ small in
    let total_some = group_fits _ _ _ is _ small in
    rw (in_region, in_group) (summed _ _ _ is _ small _ _ _ 1 0 (omega (arith, some)) (omega (arith, some, group_some)) (omega (arith, some, group_some, total_some)))

pub returns-clause-total : goal.returns-clause-total
returns-clause-total c =
    let small = region_within _ c.ranges.split.fits in
    let is = c.self.invariant in
    let some = rw (← c.self.view_is) at c.requires in
    rw (← c.self.view_is) (omega (arith, some, region_fits _ _ _ is _ small, group_fits _ _ _ is _ small))

pub returns-clause-counts : goal.returns-clause-counts
returns-clause-counts c =
    let small = region_within _ c.ranges.split.fits in
    let is = c.self.invariant in
    let in_region = get_or_read _ _ _ (region_there _ _ _ is _ small) c.index_mut.ensures.value 0 in
    let some = rw (← c.self.view_is) at c.requires in
    let fewer : c.index_mut.result.now - 1 + 1 ≡ c.index_mut.result.now = omega (arith, some, in_region) in
    rw (← c.self.view_is) (one_less_in _ _ _ (region_there _ _ _ is _ small) (fewer ∙ in_region))
