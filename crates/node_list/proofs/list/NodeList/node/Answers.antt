use Rattle.node_list.proofs.ChainLemmas.{linked_node, next_is, node_found}
use Rattle.node_list.proofs.FollowLemmas.{sound}
use Rattle.node_list.proofs.list.NodeList.node.Goals as goal

pub node_at-requires : goal.node_at-requires
node_at-requires c = rw c.place.ensures (linked_node _ _ _ c.self.invariant.kept.laid_out.chain (rw (← c.self.view_is) at c.requires))

pub returns-clause-sound : goal.returns-clause-sound
returns-clause-sound c = rw (← c.self.view_is) (sound _ _ _ _ _ _ c.self.invariant.kept)

pub returns-clause-node : goal.returns-clause-node
returns-clause-node c =
    rw (← c.self.view_is) (node_found _ _ _ _ c.self.invariant.kept.laid_out.chain (rw (← c.self.view_is) at c.requires) (rw c.place.ensures at c.node_at.ensures))

pub returns-clause-next : goal.returns-clause-next
returns-clause-next c =
    rw (← c.self.view_is) (next_is _ _ _ _ c.self.invariant.kept.laid_out.chain (rw (← c.self.view_is) at c.requires) (rw c.place.ensures at c.node_at.ensures))
