use Rattle.node_list.proofs.NodesLemmas.{found_linked}
use Rattle.table_tests.proofs.node_list_tests.link.Goals as goal

pub node-requires : goal.node-requires
node-requires c =
    let sound = c.head-head.ensures.sound in
    rw (c.in_ok-spare.ensures.ok.nodes, c.head-head.ensures.place) (found_linked _ _ _ sound.first.is)
