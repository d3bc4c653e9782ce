use Rattle.std.proofs.Common.{arith}
use Rattle.node_list.proofs.NodesLemmas.{found_linked}
use Rattle.node_list.proofs.CallLemmas.{slot_linked, counted_fit, counts_one, node_marked, regular_found}
use Rattle.node_list.proofs.TallyLemmas.{tallied_marked}
use Rattle.node_list.proofs.list.NodeList.set_mark.Goals as goal

pub node_at-requires : goal.node_at-requires
node_at-requires c =
    let regular = rw (← c.self.view_is) at c.requires in
    rw c.place.ensures (slot_linked _ _ _ _ _ _ c.self.invariant.kept (found_linked _ _ _ regular.is))

pub mark-requires : goal.mark-requires
mark-requires c =
    let regular = rw (← c.self.view_is) at c.requires in
    rw c.place-2.ensures (slot_linked _ _ _ _ _ _ c.self.invariant.kept (found_linked _ _ _ regular.is))

pub overflow_sub-self : goal.overflow_sub-self
overflow_sub-self c = counts_one _ _ c.self.inside.changes _ _ _ c.self.invariant.kept _ (rw (← c.self.view_is) at c.requires)

pub add-requires : goal.add-requires
add-requires c =
    let regular = rw (← c.self.view_is) at c.requires in
    let is_node = rw c.place.ensures at c.node_at.ensures in
    let is_written = rw c.place-2.ensures at c.mark.ensures c.node_at.result.now in
    let now = node_marked _ _ c.self.inside.changes _ _ _ c.self.invariant.kept _ _ _ regular is_node (is_written is_node) in
    let fits = counted_fit _ _ _ _ _ now.0 in
    omega (arith, fits, c.len-places.ensures, c.len-places.type_inv)

pub invariant_of-self : goal.invariant_of-self
invariant_of-self c =
    let regular = rw (← c.self.view_is) at c.requires in
    let is_node = rw c.place.ensures at c.node_at.ensures in
    let is_written = rw c.place-2.ensures at c.mark.ensures c.node_at.result.now in
    let now = node_marked _ _ c.self.inside.changes _ _ _ c.self.invariant.kept _ _ _ regular is_node (is_written is_node) in
    let found = regular_found _ _ c.self.inside.changes _ _ _ c.self.invariant.kept _ _ regular is_node in
    let added = rw c.split-split.ensures at c.add.ensures.counts in
    record {
      kept = rw c.add.ensures.total now.0;
      tallied = tallied_marked c.self.inside.marks c.add.new.self _ _ _ _ c.self.invariant.tallied found.0 found.1 added now.1.nodes;
    }

pub returns-clause-marked : goal.returns-clause-marked
returns-clause-marked c =
    let regular = rw (← c.self.view_is) at c.requires in
    let is_node = rw c.place.ensures at c.node_at.ensures in
    let is_written = rw c.place-2.ensures at c.mark.ensures c.node_at.result.now in
    rw (c.advance.ensures.next, ← c.self.view_is) ((node_marked _ _ _ _ _ _ c.self.invariant.kept _ _ _ regular is_node (is_written is_node)).1)

pub returns-clause-follows : goal.returns-clause-follows
returns-clause-follows c =
    let regular = rw (← c.self.view_is) at c.requires in
    let is_node = rw c.place.ensures at c.node_at.ensures in
    let is_written = rw c.place-2.ensures at c.mark.ensures c.node_at.result.now in
    rw (c.advance.ensures.next, ← c.self.view_is) ((node_marked _ _ _ _ _ _ c.self.invariant.kept _ _ _ regular is_node (is_written is_node)).2 c.advance.ensures.fits)
