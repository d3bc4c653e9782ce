use Rattle.std.proofs.Common.{true, false, is_some, arith, ap, sym, ◌∙◌}
use Rattle.boost_core.proofs.SideRefusals.{lacking, refusal_at, or_else_some, not_some}
use Rattle.boost_core.proofs.machine.Core.refusal.Goals as goal

pub returns-then-is_some : goal.returns-then-is_some
returns-then-is_some c =
    let here = refusal_at _ _ c.self.invariant.tells c.self.view_is c.args.caller c.index-session.result.now c.index-session.ensures c.args.step _ c.by-whole.ensures (omega (arith, c.from.ensures, c.callers.ensures.value)) in
    c.refusal-refusal.ensures ∙ sym (here ∙ or_else_some _ _ (ap is_some (sym c.refusal-refusal.ensures) ∙ sym c.if-is_some.ensures))

pub returns-then-lacks_cursor : goal.returns-then-lacks_cursor
returns-then-lacks_cursor c =
    let here = refusal_at _ _ c.self.invariant.tells c.self.view_is c.args.caller c.index-session.result.now c.index-session.ensures c.args.step _ c.by-whole.ensures (omega (arith, c.from.ensures, c.callers.ensures.value)) in
    let none = not_some c.refusal-refusal.result (sym c.if-is_some.ensures) in
    sym (here ∙ lacking _ _ true (sym c.refusal-refusal.ensures ∙ none) (sym c.lacks_cursor.ensures ∙ c.if-lacks_cursor.true))

pub returns : goal.returns
returns c =
    let here = refusal_at _ _ c.self.invariant.tells c.self.view_is c.args.caller c.index-session.result.now c.index-session.ensures c.args.step _ c.by-whole.ensures (omega (arith, c.from.ensures, c.callers.ensures.value)) in
    let none = not_some c.refusal-refusal.result (sym c.if-is_some.ensures) in
    sym (here ∙ lacking _ _ false (sym c.refusal-refusal.ensures ∙ none) (sym c.lacks_cursor.ensures ∙ c.if-lacks_cursor.false))
