use Rattle.std.proofs.Common.{true, sym, ◌∙◌}
use Rattle.std.specs.Prelude.{Result, Ok, Err, OnErr}
use Rattle.txn_trace.proofs.Verdicts.{legal-push}
use Rattle.history_check.proofs.EntryKinds.{broken_by}
use Rattle.history_check.proofs.state.State.judge.Goals as goal

on_err : {A E P : Type 0} (r : Result A E) → P → OnErr r P
on_err (Ok a) p = tt
on_err (Err e) p = p

pub returns-in_err-follow-clause-err : goal.returns-in_err-follow-clause-err
returns-in_err-follow-clause-err c = on_err c.from_residual-in_err-follow.result (λ holder stripes h t. record {
  legal = t.legal;
  entered = c.reserve.ensures.same h t.entered;
  shows = c.in_err-follow.ensures.err holder stripes h t.shows;
})

pub returns-clause-ok : goal.returns-clause-ok
returns-clause-ok c holder stripes h t =
    let e = c.args.entry.now in
    let shaped = sym (c.has_shape.ensures h t.entered) ∙ c.if-not-has_shape.false in
    let answered = sym (c.is_answered.ensures holder stripes h t.legal t.entered t.shows shaped) ∙ c.if-not-is_answered.false in
    let entered = c.reserve.ensures.same h t.entered in
    let follows = c.in_ok-follow.ensures.ok holder stripes h t.legal entered t.shows shaped answered in
    let right = c.if-not-branch.false in
    record {
      legal = (legal-push stripes h t.legal e).1 (broken_by holder stripes h e true true true shaped answered (follows.locked ∙ right));
      entered = c.enter.ensures h entered shaped;
      shows = follows.shows right;
    }
