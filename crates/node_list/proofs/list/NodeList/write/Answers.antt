use Rattle.node_list.proofs.CallLemmas.{slot_linked, value_written}
use Rattle.node_list.proofs.ChainLemmas.{node_found}
use Rattle.node_list.proofs.TallyLemmas.{tallied_written}
use Rattle.node_list.proofs.list.NodeList.write.Goals as goal

pub set_value-requires : goal.set_value-requires
set_value-requires c = rw c.place.ensures (slot_linked _ _ _ _ _ _ c.self.invariant.kept (rw (← c.self.view_is) at c.requires))

pub invariant_of-self : goal.invariant_of-self
invariant_of-self c =
    let linked = rw (← c.self.view_is) at c.requires in
    let slot = slot_linked _ _ _ _ _ _ c.self.invariant.kept linked in
    let is_written = rw c.place.ensures at c.set_value.ensures slot.0 in
    let now = value_written _ _ c.self.inside.changes _ _ _ c.self.invariant.kept _ _ _ slot.0 linked slot.1 (is_written slot.1) in
    let found = node_found _ _ _ _ c.self.invariant.kept.laid_out.chain linked slot.1 in
    record { kept = now.0; tallied = tallied_written c.self.inside.marks _ _ _ _ _ c.self.invariant.tallied found now.1.nodes }

pub returns-clause-written : goal.returns-clause-written
returns-clause-written c =
    let linked = rw (← c.self.view_is) at c.requires in
    let slot = slot_linked _ _ _ _ _ _ c.self.invariant.kept linked in
    let is_written = rw c.place.ensures at c.set_value.ensures slot.0 in
    rw (c.advance.ensures.next, ← c.self.view_is) ((value_written _ _ _ _ _ _ c.self.invariant.kept _ _ _ slot.0 linked slot.1 (is_written slot.1)).1)

pub returns-clause-follows : goal.returns-clause-follows
returns-clause-follows c =
    let linked = rw (← c.self.view_is) at c.requires in
    let slot = slot_linked _ _ _ _ _ _ c.self.invariant.kept linked in
    let is_written = rw c.place.ensures at c.set_value.ensures slot.0 in
    rw (c.advance.ensures.next, ← c.self.view_is) ((value_written _ _ _ _ _ _ c.self.invariant.kept _ _ _ slot.0 linked slot.1 (is_written slot.1)).2 c.advance.ensures.fits)
