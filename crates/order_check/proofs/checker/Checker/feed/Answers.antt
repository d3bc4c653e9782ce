use Rattle.std.proofs.Common.{◌≡◌, ◌+◌, ◌++◌, ◌∷◌, [], sym, ◌∙◌, arith, length-append}
use Rattle.std.specs.Prelude.{Result, Ok, Err, OnErr}
use Rattle.history_check.proofs.FirstBad.{next_is}
use Rattle.order_check.proofs.Misshapen.{still_misshapen, while_shaped}
use Rattle.order_check.proofs.checker.Checker.feed.Goals as goal

on_err : {A E P : Type 0} (r : Result A E) → P → OnErr r P
on_err (Ok a) p = tt
on_err (Err e) p = p

pub returns-then-is_some-clause-ok : goal.returns-then-is_some-clause-ok
returns-then-is_some-clause-ok c b h fed =
    still_misshapen b h c.args.entry.now c.args.self.now _ c.args.self.now.misshapen (sym c.is_some.ensures ∙ c.if-is_some.true) fed

pub returns-in_err-reserve-clause-err : goal.returns-in_err-reserve-clause-err
returns-in_err-reserve-clause-err c = on_err c.from_residual-in_err-reserve.result (λ b h fed.
    while_shaped b h h c.args.self.now _ c.args.self.now.misshapen (sym c.is_some.ensures ∙ c.if-is_some.false) (λ tells. record {
      entered = c.reserve.ensures.same h tells.entered;
      shows = tells.shows;
      count = tells.count;
    }) fed)

pub returns-in_err-take_in-clause-err : goal.returns-in_err-take_in-clause-err
returns-in_err-take_in-clause-err c = on_err c.from_residual-in_err-take_in.result (λ b h fed.
    while_shaped b h h c.args.self.now _ c.args.self.now.misshapen (sym c.is_some.ensures ∙ c.if-is_some.false) (λ tells. record {
      entered = c.reserve.ensures.same h tells.entered;
      shows = c.in_err-take_in.ensures.err b h tells.shows;
      count = tells.count;
    }) fed)

pub returns-clause-ok : goal.returns-clause-ok
returns-clause-ok c b h fed =
    let e = c.args.entry.now in
    let old = c.args.self.now in
    let one_more : c.in_ok-next.next ≡ old.fed + 1 = next_is c.checked_add.result _ (old.fed + 1) c.in_ok-next.next c.checked_add.ensures c.in_ok-next.ensures.ok_part in
    while_shaped b h (h ++ e ∷ []) old _ old.misshapen (sym c.is_some.ensures ∙ c.if-is_some.false) (λ tells.
    let entered = c.reserve.ensures.same h tells.entered in
    let shaped = sym (c.has_shape.ensures h tells.entered) ∙ c.if-not-has_shape.false in
    record {
      entered = c.enter.ensures h entered shaped;
      shows = c.in_ok-take_in.ensures.ok b h entered tells.shows shaped;
      count = let n = length-append h (e ∷ []) in let m = tells.count in omega (arith, one_more, m, n);
    }) fed
