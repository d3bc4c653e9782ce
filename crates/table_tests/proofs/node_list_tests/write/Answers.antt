use Rattle.node_list.proofs.NodesLemmas.{found_linked}
use Rattle.table_tests.proofs.node_list_tests.write.Goals as goal

pub write-requires : goal.write-requires
write-requires c = found_linked _ _ _ c.in-Some.ensures.node
