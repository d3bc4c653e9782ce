use Rattle.std.proofs.Common.{◌≡◌, ◌≤◌, List, Some, sym, ap, subst, ◌∙◌, arith, slice_get}
use Rattle.boost_core.proofs.Vocabulary.{Session, Stance, State, stance_in, is_at_end}
use Rattle.boost_core.proofs.SideRefusals.{index_at, stance_here}
use Rattle.boost_core.proofs.Calls.{stance_past}
use Rattle.boost_core.proofs.machine.Core.leaves_to_end.Goals as goal

pub returns-in-None-clause-value : goal.returns-in-None-clause-value
returns-in-None-clause-value c =
    let past : c.self.inside.limits.callers ≤ c.args.caller = omega (arith, c.in-None.ensures.lookup.3, c.deref.ensures.len, c.self.invariant.tells.count) in
    sym (ap (λ (s : State). is_at_end (stance_in s.history c.args.caller).phase) (sym c.self.view_is) ∙ ap (λ (s : Stance). is_at_end s.phase) (stance_past c.self.inside.limits.callers c.args.caller c.self.inside.history.items c.self.invariant.tells.callers past))

pub returns-in-Some-clause-value : goal.returns-in-Some-clause-value
returns-in-Some-clause-value c =
    let at = subst (λ (xs : List Session). slice_get xs c.args.caller ≡ Some c.in-Some.session.now) c.deref.ensures.value (index_at c.deref.result.now c.args.caller c.in-Some.session.now c.in-Some.ensures.lookup.3.0 c.in-Some.ensures.lookup.1) in
    c.leaves_to_end.ensures ∙ ap (λ (s : Stance). is_at_end s.phase) (sym (stance_here _ c.self.invariant.tells c.args.caller c.in-Some.session.now at)) ∙ ap (λ (s : State). is_at_end (stance_in s.history c.args.caller).phase) c.self.view_is
