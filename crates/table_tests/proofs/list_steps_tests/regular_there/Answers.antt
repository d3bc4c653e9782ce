use Rattle.node_list.proofs.NodesLemmas.{found_linked}
use Rattle.table_tests.proofs.list_steps_tests.regular_there.Goals as goal

pub node-requires : goal.node-requires
node-requires c =
    let here = rw c.in-Ok-Some.field-0-is at c.in-Ok-Some.ensures.ok in
    found_linked _ _ _ here.is
