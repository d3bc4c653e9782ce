use Rattle.node_list.proofs.TallySteps.{some_group, some_region, first_counted}
use Rattle.node_list.proofs.tally.Tally.first.Goals as goal

pub first_of_run-group-requires-clause-some : goal.first_of_run-group-requires-clause-some
first_of_run-group-requires-clause-some c = rw c.deref.ensures.value (some_group _ _ _ c.self.invariant c.if-self-eq0.false)

pub first_of_run-region-requires-clause-some : goal.first_of_run-region-requires-clause-some
first_of_run-region-requires-clause-some c =
    let group = rw c.deref.ensures.value at c.first_of_run-group.ensures in
    rw c.deref-2.ensures.value (some_region _ _ _ c.self.invariant _ group)

pub returns-clause-first : goal.returns-clause-first
returns-clause-first c =
    let group = rw c.deref.ensures.value at c.first_of_run-group.ensures in
    let region = rw c.deref-2.ensures.value at c.first_of_run-region.ensures in
    rw (← c.self.view_is) (first_counted _ _ _ c.self.invariant _ group _ region)
