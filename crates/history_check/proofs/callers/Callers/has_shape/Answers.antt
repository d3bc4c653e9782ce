use Rattle.std.proofs.Common.{◌<◌, ◌&&◌, ap, sym, ◌∙◌, arith}
use Rattle.txn_words.specs.Shape.{stance_after, own, is_numbered}
use Rattle.txn_trace.proofs.EntrySteps.{is_shaped_is}
use Rattle.history_check.specs.Callers.{stance_of}
use Rattle.history_check.proofs.CallerTable.{sits_at}
use Rattle.history_check.proofs.callers.Callers.has_shape.Goals as goal

pub returns-then-allows : goal.returns-then-allows
returns-then-allows c h t =
    let below : c.caller-caller.result < 64 = omega (arith, c.caller-caller.ensures, c.requires) in
    let sits = sits_at h c.args.self.now c.caller-caller.result c.index.result.now t below c.index.ensures in
    c.has_next_number-is_numbered.ensures h t.begins t.commits
    ∙ ap (λ b. b && is_numbered h c.args.entry.now) (sym c.if-allows.true ∙ c.allows.ensures)
    ∙ sym (is_shaped_is h c.args.entry.now (stance_of c.index.result.now) (ap (λ d. stance_after (own d h)) (sym c.caller-caller.ensures) ∙ sits.stance))

pub returns-else-allows : goal.returns-else-allows
returns-else-allows c h t =
    let below : c.caller-caller.result < 64 = omega (arith, c.caller-caller.ensures, c.requires) in
    let sits = sits_at h c.args.self.now c.caller-caller.result c.index.result.now t below c.index.ensures in
    c.if-allows.false
    ∙ ap (λ b. b && is_numbered h c.args.entry.now) (sym c.if-allows.false ∙ c.allows.ensures)
    ∙ sym (is_shaped_is h c.args.entry.now (stance_of c.index.result.now) (ap (λ d. stance_after (own d h)) (sym c.caller-caller.ensures) ∙ sits.stance))
