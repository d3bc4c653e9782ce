use Rattle.node_list.proofs.CallLemmas.{taken_back}
use Rattle.node_list.proofs.TallyLemmas.{tallied_same}
use Rattle.node_list.proofs.list.NodeList.give_back.Goals as goal

pub invariant_of-self : goal.invariant_of-self
invariant_of-self c =
    let is_out = rw (← c.self.view_is) at c.requires in
    let freed = rw (c.place.ensures, c.node.ensures) at c.try_remove.ensures.updates in
    let now = taken_back _ _ c.self.inside.changes _ _ _ c.self.invariant.kept _ _ _ is_out freed in
    record { kept = now.0; tallied = tallied_same c.self.inside.marks _ _ now.1.nodes c.self.invariant.tallied }

pub returns-clause-back : goal.returns-clause-back
returns-clause-back c =
    let is_out = rw (← c.self.view_is) at c.requires in
    let freed = rw (c.place.ensures, c.node.ensures) at c.try_remove.ensures.updates in
    rw (← c.self.view_is) ((taken_back _ _ c.self.inside.changes _ _ _ c.self.invariant.kept _ _ _ is_out freed).1)

pub returns-clause-follows : goal.returns-clause-follows
returns-clause-follows c =
    let is_out = rw (← c.self.view_is) at c.requires in
    let freed = rw (c.place.ensures, c.node.ensures) at c.try_remove.ensures.updates in
    rw (← c.self.view_is) ((taken_back _ _ c.self.inside.changes _ _ _ c.self.invariant.kept _ _ _ is_out freed).2)
