use Rattle.std.proofs.Common.{Option, refl, sym, subst}
use Rattle.boostmap_c.specs.declared.member.Member.{Member}
use Rattle.boostmap_c.specs.Members.{LeavesMap}
use Rattle.striped_map.specs.Calls.{Aborts}
use Rattle.boostmap_c.proofs.striped.boostmap_striped_free.Goals as goal

pub returns-in-Some : goal.returns-in-Some
returns-in-Some c =
    let aborted : Aborts c.in-Some.member.value.caller c.end-aborted.result c.end-aborted.new.member.caller = subst (λ (m : Member). Aborts m.caller c.end-aborted.result c.end-aborted.new.member.caller) c.deref_mut.ensures.value c.end-aborted.ensures.aborts in
    subst (λ (old : Option Member). LeavesMap old 0 c.take_out.new.handle.held.member) (sym c.in-Some.ensures.some) (refl, c.in-Some.ensures.zeros, c.end-aborted.result, c.end-aborted.new.member.caller, aborted)
