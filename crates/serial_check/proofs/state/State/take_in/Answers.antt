use Rattle.std.proofs.Common.{sym, ◌∙◌}
use Rattle.std.specs.Prelude.{Result, Ok, Err, OnErr}
use Rattle.serial_check.proofs.Judging.{serializable_push, broken_by}
use Rattle.serial_check.proofs.state.State.take_in.Goals as goal

on_err : {A E P : Type 0} (r : Result A E) → P → OnErr r P
on_err (Ok a) p = tt
on_err (Err e) p = p

pub returns-in_err-take_in-clause-err : goal.returns-in_err-take_in-clause-err
returns-in_err-take_in-clause-err c = on_err c.from_residual-in_err-take_in.result (λ h t. record {
  serializable = t.serializable;
  entered = c.reserve.ensures.same h t.entered;
  keeps = c.in_err-take_in.ensures.err h t.keeps;
})

pub returns-then-not-branch-clause-ok : goal.returns-then-not-branch-clause-ok
returns-then-not-branch-clause-ok c h t =
    let e = c.args.entry.now in
    let shaped = sym (c.has_shape.ensures h t.entered) ∙ c.if-not-has_shape.false in
    let judges = c.in_ok-take_in.ensures.ok h (c.reserve.ensures.same h t.entered) t.keeps shaped in
    broken_by h e shaped (judges.right_is ∙ c.if-not-branch.true)

pub returns-clause-ok : goal.returns-clause-ok
returns-clause-ok c h t =
    let e = c.args.entry.now in
    let shaped = sym (c.has_shape.ensures h t.entered) ∙ c.if-not-has_shape.false in
    let entered = c.reserve.ensures.same h t.entered in
    let judges = c.in_ok-take_in.ensures.ok h entered t.keeps shaped in
    let right = c.if-not-branch.false in
    record {
      serializable = serializable_push h e t.serializable shaped (judges.right_is ∙ right);
      entered = c.enter.ensures h entered shaped;
      keeps = judges.keeps right;
    }
