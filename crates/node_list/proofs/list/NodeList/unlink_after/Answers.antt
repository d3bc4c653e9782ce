use Rattle.std.proofs.Common.{◌≡◌, ◌-◌, ◌∙◌, sym, ap, arith}
use Rattle.split_key.specs.declared.sort.SortKey.{SortKey}
use Rattle.node_list.proofs.CallLemmas.{slot_linked, behind_linked, behind_place, behind_slot, behind_at, unlinked}
use Rattle.node_list.proofs.TallyLemmas.{tallied_unlinked, tallied_some}
use Rattle.node_list.proofs.list.NodeList.unlink_after.Goals as goal

pub node_at-requires : goal.node_at-requires
node_at-requires c =
    let behind = rw (← c.self.view_is) at c.requires in
    rw c.place.ensures (slot_linked _ _ _ _ _ _ c.self.invariant.kept (behind_linked _ _ _ behind))

pub node_at-behind-requires : goal.node_at-behind-requires
node_at-behind-requires c =
    let behind = rw (← c.self.view_is) at c.requires in
    let is_before = rw c.place.ensures at c.node_at.ensures in
    rw c.place-in-Some.ensures (behind_slot _ _ c.self.inside.changes _ _ _ c.self.invariant.kept _ _ _ (behind_linked _ _ _ behind) is_before (sym c.in-Some.ensures))

pub replace_next-requires : goal.replace_next-requires
replace_next-requires c =
    let behind = rw (← c.self.view_is) at c.requires in
    rw c.place-in-Some-2.ensures (slot_linked _ _ _ _ _ _ c.self.invariant.kept (behind_linked _ _ _ behind))

pub take_away-requires : goal.take_away-requires
take_away-requires c =
    let behind = rw (← c.self.view_is) at c.requires in
    let is_before = rw c.place.ensures at c.node_at.ensures in
    let is_behind = rw c.place-in-Some.ensures at c.node_at-behind.ensures in
    let at = behind_at _ _ c.self.inside.changes _ _ _ c.self.invariant.kept _ _ _ _ behind is_before (sym c.in-Some.ensures) is_behind in
    let split = ap (λ (k : SortKey). k.split) at in
    rw c.split.ensures (tallied_some c.self.inside.marks _ _ _ _ c.self.invariant.tallied behind.next behind.marked split)

pub invariant_of-self : goal.invariant_of-self
invariant_of-self c =
    let behind = rw (← c.self.view_is) at c.requires in
    let is_before = rw c.place.ensures at c.node_at.ensures in
    let is_behind = rw c.place-in-Some.ensures at c.node_at-behind.ensures in
    let passed = rw c.place-in-Some-2.ensures at c.replace_next.ensures.now c.node_at.result.now in
    let freed = rw c.place-in-Some-3.ensures at c.try_remove.ensures.updates in
    let now = unlinked _ _ c.self.inside.changes _ _ _ c.self.invariant.kept _ _ _ _ _ _ behind is_before (sym c.in-Some.ensures) is_behind (passed is_before) freed in
    let at = behind_at _ _ c.self.inside.changes _ _ _ c.self.invariant.kept _ _ _ _ behind is_before (sym c.in-Some.ensures) is_behind in
    let split = ap (λ (k : SortKey). k.split) at in
    let less : c.take_away.new.self.total ≡ c.self.inside.marks.total - 1 = omega (arith, c.take_away.ensures.total) in
    let fewer = rw c.split.ensures at c.take_away.ensures.counts in
    record {
      kept = rw less now.0;
      tallied = tallied_unlinked c.self.inside.marks _ _ _ _ c.self.invariant.tallied behind.next behind.marked split c.take_away.new.self _ fewer now.1.nodes;
    }

pub returns-in-Some-clause-unlinked : goal.returns-in-Some-clause-unlinked
returns-in-Some-clause-unlinked c =
    let behind = rw (← c.self.view_is) at c.requires in
    let is_before = rw c.place.ensures at c.node_at.ensures in
    let is_behind = rw c.place-in-Some.ensures at c.node_at-behind.ensures in
    let passed = rw c.place-in-Some-2.ensures at c.replace_next.ensures.now c.node_at.result.now in
    let freed = rw c.place-in-Some-3.ensures at c.try_remove.ensures.updates in
    rw (c.advance.ensures.next, ← c.self.view_is) ((unlinked _ _ _ _ _ _ c.self.invariant.kept _ _ _ _ _ _ behind is_before (sym c.in-Some.ensures) is_behind (passed is_before) freed).1)

pub returns-in-Some-clause-follows : goal.returns-in-Some-clause-follows
returns-in-Some-clause-follows c =
    let behind = rw (← c.self.view_is) at c.requires in
    let is_before = rw c.place.ensures at c.node_at.ensures in
    let is_behind = rw c.place-in-Some.ensures at c.node_at-behind.ensures in
    let passed = rw c.place-in-Some-2.ensures at c.replace_next.ensures.now c.node_at.result.now in
    let freed = rw c.place-in-Some-3.ensures at c.try_remove.ensures.updates in
    rw (c.advance.ensures.next, ← c.self.view_is) ((unlinked _ _ _ _ _ _ c.self.invariant.kept _ _ _ _ _ _ behind is_before (sym c.in-Some.ensures) is_behind (passed is_before) freed).2 c.advance.ensures.fits)

pub returns-in_default-clause-unlinked : goal.returns-in_default-clause-unlinked
returns-in_default-clause-unlinked c =
    let behind = rw (← c.self.view_is) at c.requires in
    let is_before = rw c.place.ensures at c.node_at.ensures in
    absurd (c.in_default.not-Some _ (c.next.ensures ∙ behind_place _ _ c.self.inside.changes _ _ _ c.self.invariant.kept _ _ behind is_before))
