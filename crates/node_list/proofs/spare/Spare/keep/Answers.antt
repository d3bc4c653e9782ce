use Rattle.node_list.proofs.NodesLemmas.{unfilled_is}
use Rattle.node_list.proofs.spare.Spare.keep.Goals as goal

pub returns : goal.returns
returns c = rw (c.stamp.ensures, c.node.ensures) (unfilled_is _ c.requires)
