use Rattle.std.proofs.Common.{sym, ◌∙◌, arith}
use Rattle.node_list.specs.Layout.{nodes_in}
use Rattle.node_list.proofs.KeptLemmas.{kept_grown, listing_grown, ok_some, ok_none}
use Rattle.node_list.proofs.FollowLemmas.{follows_self}
use Rattle.node_list.proofs.CallLemmas.{spared}
use Rattle.node_list.proofs.TallyLemmas.{tallied_same}
use Rattle.node_list.proofs.list.NodeList.spare.Goals as goal

pub invariant_of-self : goal.invariant_of-self
invariant_of-self c =
    let answer = ok_some _ _ (sym c.ok.ensures.value ∙ c.in-Some.is) in
    let free = rw answer at c.insert.ensures.was_vacant in
    let updates = rw (answer, c.out.ensures, c.dummy-node.ensures) at c.insert.ensures.updates in
    let now = spared _ _ c.self.inside.changes _ _ _ c.self.invariant.kept _ _ (omega arith) free updates in
    record { kept = now.0; tallied = tallied_same c.self.inside.marks _ _ now.1.nodes c.self.invariant.tallied }

pub returns-in-Some-clause-ok : goal.returns-in-Some-clause-ok
returns-in-Some-clause-ok c =
    let answer = ok_some _ _ (sym c.ok.ensures.value ∙ c.in-Some.is) in
    let free = rw answer at c.insert.ensures.was_vacant in
    let updates = rw (answer, c.out.ensures, c.dummy-node.ensures) at c.insert.ensures.updates in
    let key = rw answer at c.insert.ensures.key in
    let place = key ∙ sym c.vacant_key.ensures.value ∙ sym c.in-Ok.ensures.1 in
    rw (c.of.ensures, c.new.ensures, ← place, c.dummy-node.ensures, ← c.self.view_is) ((spared _ _ _ _ _ _ c.self.invariant.kept _ _ (omega arith) free updates).1)

pub returns-in-Some-clause-follows : goal.returns-in-Some-clause-follows
returns-in-Some-clause-follows c =
    let answer = ok_some _ _ (sym c.ok.ensures.value ∙ c.in-Some.is) in
    let free = rw answer at c.insert.ensures.was_vacant in
    let updates = rw (answer, c.out.ensures, c.dummy-node.ensures) at c.insert.ensures.updates in
    rw (← c.self.view_is) ((spared _ _ _ _ _ _ c.self.invariant.kept _ _ (omega arith) free updates).2)

pub invariant_of-self-in-None : goal.invariant_of-self-in-None
unfolding nodes_in
invariant_of-self-in-None c =
    let answer = ok_none _ (sym c.ok.ensures.value ∙ c.in-None.is) in
    let grown = rw answer.1 at c.insert.ensures.err in
    rw grown (record { kept = kept_grown _ _ _ _ _ _ c.self.invariant.kept; tallied = c.self.invariant.tallied })

pub returns-in-None-clause-unchanged : goal.returns-in-None-clause-unchanged
returns-in-None-clause-unchanged c =
    let answer = ok_none _ (sym c.ok.ensures.value ∙ c.in-None.is) in
    let grown = rw answer.1 at c.insert.ensures.err in
    rw grown (listing_grown _ _ _ _ _ ∙ c.self.view_is)

pub returns-in-None-clause-follows : goal.returns-in-None-clause-follows
returns-in-None-clause-follows c =
    let f = c.self.inside in
    let answer = ok_none _ (sym c.ok.ensures.value ∙ c.in-None.is) in
    let grown = rw answer.1 at c.insert.ensures.err in
    let same = listing_grown f.slab c.insert.new.self.capacity f.head f.changes f.last ∙ c.self.view_is in
    rw (grown, same) (follows_self _)
