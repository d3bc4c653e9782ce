use Rattle.node_list.proofs.NodesLemmas.{none_found}
use Rattle.node_list.proofs.ChainLemmas.{next_is, node_found, node_in-linked, node_in-none, not_linked}
use Rattle.node_list.proofs.FollowLemmas.{sound}
use Rattle.node_list.proofs.list.NodeList.linked_node.Goals as goal

pub returns-in-Some-clause-node : goal.returns-in-Some-clause-node
returns-in-Some-clause-node c =
    let laid = c.self.invariant.kept.laid_out in
    let is = rw c.place.ensures at (node_in-linked _ _ c.in-Some.ensures) in
    rw (← c.self.view_is) (node_found _ _ _ _ laid.chain (laid.all _ _ is) is)

pub returns-in-Some-clause-next : goal.returns-in-Some-clause-next
returns-in-Some-clause-next c =
    let laid = c.self.invariant.kept.laid_out in
    let is = rw c.place.ensures at (node_in-linked _ _ c.in-Some.ensures) in
    rw (← c.self.view_is) (next_is _ _ _ _ laid.chain (laid.all _ _ is) is)

pub returns-in-Some-clause-sound : goal.returns-in-Some-clause-sound
returns-in-Some-clause-sound c = rw (← c.self.view_is) (sound _ _ _ _ _ _ c.self.invariant.kept)

pub returns-in-None-clause-absent : goal.returns-in-None-clause-absent
returns-in-None-clause-absent c =
    let none = rw c.place.ensures at c.in-None.ensures in
    rw (← c.self.view_is) (none_found _ _ (not_linked _ _ _ c.self.invariant.kept.laid_out.chain (λ node there. node_in-none _ node none there)))

pub returns-in-None-clause-sound : goal.returns-in-None-clause-sound
returns-in-None-clause-sound c = rw (← c.self.view_is) (sound _ _ _ _ _ _ c.self.invariant.kept)
