use Rattle.std.proofs.Common.{refl}
use Rattle.node_list.specs.Nodes.{count_where}
use Rattle.node_list.proofs.ChainLemmas.{nodes_in_is}
use Rattle.node_list.proofs.FollowLemmas.{sound}
use Rattle.node_list.proofs.KeptLemmas.{kept}
use Rattle.node_list.proofs.SpareSteps.{new_laid_out, new_stamps, new_out}
use Rattle.node_list.proofs.TallyLemmas.{tallied_new}
use Rattle.node_list.proofs.list.NodeList.new.Goals as goal

pub invariant_of-result : goal.invariant_of-result
unfolding count_where
invariant_of-result c =
    let updates = rw (c.of_linked.ensures, c.dummy-node.ensures, c.dummy.ensures.value, c.in-Ok.ensures.key, c.new-slab.ensures.first_key) at c.in-Ok.ensures.updates in
    let laid = new_laid_out _ _ _ _ c.new-slab.ensures.empty updates in
    rw c.new-in-Ok.ensures (record {
      kept = kept _ _ _ _ _ _ laid (new_stamps _ _ _ _ c.new-slab.ensures.empty updates) c.requires refl c.in_ok-marks.ensures.total;
      tallied = tallied_new c.in_ok-marks.marks _ _ c.in_ok-marks.ensures.counts refl (nodes_in_is _ _ _ laid);
    })

pub returns-in-Ok-clause-nodes : goal.returns-in-Ok-clause-nodes
returns-in-Ok-clause-nodes c =
    let updates = rw (c.of_linked.ensures, c.dummy-node.ensures, c.dummy.ensures.value, c.in-Ok.ensures.key, c.new-slab.ensures.first_key) at c.in-Ok.ensures.updates in
    rw c.new-in-Ok.ensures (nodes_in_is _ _ _ (new_laid_out _ _ _ _ c.new-slab.ensures.empty updates))

pub returns-in-Ok-clause-out : goal.returns-in-Ok-clause-out
returns-in-Ok-clause-out c =
    let updates = rw (c.of_linked.ensures, c.dummy-node.ensures, c.dummy.ensures.value, c.in-Ok.ensures.key, c.new-slab.ensures.first_key) at c.in-Ok.ensures.updates in
    new_out _ _ _ _ c.new-slab.ensures.empty updates

pub returns-in-Ok-clause-sound : goal.returns-in-Ok-clause-sound
returns-in-Ok-clause-sound c = sound _ _ _ _ _ _ (invariant_of-result c).kept
