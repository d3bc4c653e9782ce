use Rattle.node_list.proofs.NodesLemmas.{found_linked}
use Rattle.list_steps.proofs.StepLemmas.{marks}
use Rattle.list_steps.proofs.steps.mark_at.Goals as goal

pub node-requires : goal.node-requires
node-requires c = found_linked _ _ _ c.requires.is

pub returns-clause-marks : goal.returns-clause-marks
returns-clause-marks c = marks _ _ _ _ c.requires c.node.ensures.node c.set_mark.ensures.marked
