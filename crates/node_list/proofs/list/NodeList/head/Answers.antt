use Rattle.node_list.proofs.FollowLemmas.{sound}
use Rattle.node_list.proofs.list.NodeList.head.Goals as goal

pub returns-clause-sound : goal.returns-clause-sound
returns-clause-sound c = rw (← c.self.view_is) (sound _ _ _ _ _ _ c.self.invariant.kept)
