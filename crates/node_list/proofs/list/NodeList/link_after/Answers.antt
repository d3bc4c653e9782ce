use Rattle.std.proofs.Common.{refl, arith}
use Rattle.node_list.specs.Nodes.{filled}
use Rattle.node_list.proofs.NodesLemmas.{vacant_linked}
use Rattle.node_list.proofs.OrderLemmas.{rising_vacant}
use Rattle.node_list.proofs.CallLemmas.{slot_linked, counted_fit, filling_slot, filled_in}
use Rattle.node_list.proofs.TallyLemmas.{tallied_linked}
use Rattle.node_list.proofs.list.NodeList.link_after.Goals as goal

pub replace_next-next-requires : goal.replace_next-next-requires
replace_next-next-requires c =
    rw c.place.ensures (slot_linked _ _ _ _ _ _ c.self.invariant.kept (vacant_linked _ _ _ (rw (← c.self.view_is) at c.requires.vacant)))

pub set_slot-requires : goal.set_slot-requires
set_slot-requires c =
    let vacant = rw (← c.self.view_is) at c.requires.vacant in
    let linked = vacant_linked _ _ _ vacant in
    let out = rw (← c.self.view_is) at c.requires.out in
    let slot = slot_linked _ _ _ _ _ _ c.self.invariant.kept linked in
    let next_was = rw c.place.ensures at c.replace_next-next.ensures.was slot.0 in
    let pointed = rw (c.place.ensures, c.of.ensures, c.node-place.ensures) at c.replace_next-next.ensures.now slot.0 in
    let free = filling_slot _ _ c.self.inside.changes _ _ _ c.self.invariant.kept _ c.replace_next-next.new.slab _ slot.0 c.args.spare _ slot.1 out (next_was slot.1) (pointed slot.1) in
    rw (c.place-2.ensures, c.node-place.ensures, free) refl

pub overflow_add-self : goal.overflow_add-self
overflow_add-self c =
    let vacant = rw (← c.self.view_is) at c.requires.vacant in
    let linked = vacant_linked _ _ _ vacant in
    let out = rw (← c.self.view_is) at c.requires.out in
    let slot = slot_linked _ _ _ _ _ _ c.self.invariant.kept linked in
    let next_was = rw c.place.ensures at c.replace_next-next.ensures.was slot.0 in
    let pointed = rw (c.place.ensures, c.of.ensures, c.node-place.ensures) at c.replace_next-next.ensures.now slot.0 in
    let order = rising_vacant _ _ (filled c.args.spare) c.self.invariant.kept.laid_out.rising vacant in
    let weight = rw c.into_node-node.ensures at c.weight-weight.ensures in
    let filled = rw (c.place-2.ensures, c.node-place.ensures, c.of_linked.ensures, c.into_node-node.ensures) at c.set_slot.ensures in
    let now = filled_in _ _ c.self.inside.changes _ _ _ c.self.invariant.kept _ _ _ slot.0 c.args.spare _ slot.1 out (next_was slot.1) (pointed slot.1) _ weight filled linked order in
    let fits = counted_fit _ _ _ _ _ now.0 in
    omega (arith, fits, c.len-places.ensures, c.len-places.type_inv)

pub invariant_of-self : goal.invariant_of-self
invariant_of-self c =
    let vacant = rw (← c.self.view_is) at c.requires.vacant in
    let linked = vacant_linked _ _ _ vacant in
    let out = rw (← c.self.view_is) at c.requires.out in
    let slot = slot_linked _ _ _ _ _ _ c.self.invariant.kept linked in
    let next_was = rw c.place.ensures at c.replace_next-next.ensures.was slot.0 in
    let pointed = rw (c.place.ensures, c.of.ensures, c.node-place.ensures) at c.replace_next-next.ensures.now slot.0 in
    let order = rising_vacant _ _ (filled c.args.spare) c.self.invariant.kept.laid_out.rising vacant in
    let weight = rw c.into_node-node.ensures at c.weight-weight.ensures in
    let filled = rw (c.place-2.ensures, c.node-place.ensures, c.of_linked.ensures, c.into_node-node.ensures) at c.set_slot.ensures in
    let now = filled_in _ _ c.self.inside.changes _ _ _ c.self.invariant.kept _ _ _ slot.0 c.args.spare _ slot.1 out (next_was slot.1) (pointed slot.1) _ weight filled linked order in
    record { kept = now.0; tallied = tallied_linked c.self.inside.marks _ _ _ _ c.self.invariant.tallied linked refl now.1.nodes }

pub returns-clause-linked : goal.returns-clause-linked
returns-clause-linked c =
    let vacant = rw (← c.self.view_is) at c.requires.vacant in
    let linked = vacant_linked _ _ _ vacant in
    let out = rw (← c.self.view_is) at c.requires.out in
    let slot = slot_linked _ _ _ _ _ _ c.self.invariant.kept linked in
    let next_was = rw c.place.ensures at c.replace_next-next.ensures.was slot.0 in
    let pointed = rw (c.place.ensures, c.of.ensures, c.node-place.ensures) at c.replace_next-next.ensures.now slot.0 in
    let order = rising_vacant _ _ (filled c.args.spare) c.self.invariant.kept.laid_out.rising vacant in
    let weight = rw c.into_node-node.ensures at c.weight-weight.ensures in
    let filled = rw (c.place-2.ensures, c.node-place.ensures, c.of_linked.ensures, c.into_node-node.ensures) at c.set_slot.ensures in
    let now = filled_in _ _ c.self.inside.changes _ _ _ c.self.invariant.kept _ _ _ slot.0 c.args.spare _ slot.1 out (next_was slot.1) (pointed slot.1) _ weight filled linked order in
    rw (c.advance.ensures.next, ← c.self.view_is) now.1

pub returns-clause-node : goal.returns-clause-node
returns-clause-node c =
    let vacant = rw (← c.self.view_is) at c.requires.vacant in
    let linked = vacant_linked _ _ _ vacant in
    let out = rw (← c.self.view_is) at c.requires.out in
    let slot = slot_linked _ _ _ _ _ _ c.self.invariant.kept linked in
    let next_was = rw c.place.ensures at c.replace_next-next.ensures.was slot.0 in
    let pointed = rw (c.place.ensures, c.of.ensures, c.node-place.ensures) at c.replace_next-next.ensures.now slot.0 in
    let order = rising_vacant _ _ (filled c.args.spare) c.self.invariant.kept.laid_out.rising vacant in
    let weight = rw c.into_node-node.ensures at c.weight-weight.ensures in
    let filled = rw (c.place-2.ensures, c.node-place.ensures, c.of_linked.ensures, c.into_node-node.ensures) at c.set_slot.ensures in
    let now = filled_in _ _ c.self.inside.changes _ _ _ c.self.invariant.kept _ _ _ slot.0 c.args.spare _ slot.1 out (next_was slot.1) (pointed slot.1) _ weight filled linked order in
    now.2

pub returns-clause-follows : goal.returns-clause-follows
returns-clause-follows c =
    let vacant = rw (← c.self.view_is) at c.requires.vacant in
    let linked = vacant_linked _ _ _ vacant in
    let out = rw (← c.self.view_is) at c.requires.out in
    let slot = slot_linked _ _ _ _ _ _ c.self.invariant.kept linked in
    let next_was = rw c.place.ensures at c.replace_next-next.ensures.was slot.0 in
    let pointed = rw (c.place.ensures, c.of.ensures, c.node-place.ensures) at c.replace_next-next.ensures.now slot.0 in
    let order = rising_vacant _ _ (filled c.args.spare) c.self.invariant.kept.laid_out.rising vacant in
    let weight = rw c.into_node-node.ensures at c.weight-weight.ensures in
    let filled = rw (c.place-2.ensures, c.node-place.ensures, c.of_linked.ensures, c.into_node-node.ensures) at c.set_slot.ensures in
    let now = filled_in _ _ c.self.inside.changes _ _ _ c.self.invariant.kept _ _ _ slot.0 c.args.spare _ slot.1 out (next_was slot.1) (pointed slot.1) _ weight filled linked order in
    rw (c.advance.ensures.next, ← c.self.view_is) (now.3 c.advance.ensures.fits)
