use Rattle.table_tests.proofs.list_steps_tests.link_here.Goals as goal

pub link_at-requires-clause-vacant : goal.link_at-requires-clause-vacant
link_at-requires-clause-vacant c =
    let here = rw c.in-Ok-None.field-0-is at c.in-Ok-None.ensures.ok in
    rw (c.pred.ensures, c.requires.at) here.vacant
