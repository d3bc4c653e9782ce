use Rattle.std.proofs.Common.{◌≡◌, ◌≤◌, List, Some, sym, ap, subst, ◌∙◌, arith, slice_get}
use Rattle.boost_core.proofs.Vocabulary.{Session, State, stance_in, has_job}
use Rattle.boost_core.proofs.Calls.{stance_past}
use Rattle.boost_core.proofs.SideRefusals.{index_at, stance_here}
use Rattle.boost_core.proofs.machine.Core.has_job.Goals as goal

pub returns-in-Some : goal.returns-in-Some
returns-in-Some c =
    let at = subst (λ (xs : List Session). slice_get xs c.args.caller ≡ Some c.in-Some.session.now) c.deref.ensures.value (index_at c.deref.result.now c.args.caller c.in-Some.session.now c.in-Some.ensures.lookup.3.0 c.in-Some.ensures.lookup.1) in
    c.has_job.ensures ∙ ap has_job (sym (stance_here _ c.self.invariant.tells c.args.caller c.in-Some.session.now at)) ∙ ap (λ (s : State). has_job (stance_in s.history c.args.caller)) c.self.view_is

pub returns-in-None : goal.returns-in-None
returns-in-None c =
    let past : c.self.inside.limits.callers ≤ c.args.caller = omega (arith, c.in-None.ensures.lookup.3, c.deref.ensures.len, c.self.invariant.tells.count) in
    sym (ap (λ (s : State). has_job (stance_in s.history c.args.caller)) (sym c.self.view_is) ∙ ap has_job (stance_past c.self.inside.limits.callers c.args.caller c.self.inside.history.items c.self.invariant.tells.callers past))
