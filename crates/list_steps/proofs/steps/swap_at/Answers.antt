use Rattle.node_list.proofs.NodesLemmas.{found_linked}
use Rattle.list_steps.proofs.StepLemmas.{swaps}
use Rattle.list_steps.proofs.steps.swap_at.Goals as goal

pub node-requires : goal.node-requires
node-requires c = found_linked _ _ _ c.requires.is

pub write-requires : goal.write-requires
write-requires c = found_linked _ _ _ c.requires.is

pub returns-clause-swaps : goal.returns-clause-swaps
returns-clause-swaps c = swaps _ _ _ _ c.requires c.node.ensures.node _ c.write.ensures.written
