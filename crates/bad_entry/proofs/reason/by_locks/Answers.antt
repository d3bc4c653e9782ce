use Rattle.std.proofs.Common.{subst}
use Rattle.std.proofs.lemmas.Result.{IfOk-weaker}
use Rattle.bad_entry.specs.Reasons.{IsShapeReason}
use Rattle.bad_entry.proofs.reason.by_locks.Goals as goal

pub returns-in-Asked : goal.returns-in-Asked
returns-in-Asked c = rw (c.in-Asked.is, c.in-Locks.is) (IfOk-weaker c.lock_reason.result _ _ (λ reason at legal. at c.args.holder legal) c.lock_reason.ensures)

pub returns-in-Busy : goal.returns-in-Busy
returns-in-Busy c = rw (c.in-Busy.is, c.in-Locks.is) (IfOk-weaker c.lock_reason-in-Busy.result _ _ (λ reason at legal. at c.args.holder legal) c.lock_reason-in-Busy.ensures)

pub returns-in_ok-checker-in-Shape : goal.returns-in_ok-checker-in-Shape
returns-in_ok-checker-in-Shape c legal =
    let h = c.args.entries.now in
    rw c.in-Shape.is (subst (λ d. IsShapeReason h d c.shape_reason.result) c.caller.ensures
    (c.shape_reason.ensures h (c.callers.ensures c.args.holder c.args.stripes h c.in_ok-checker-in-Shape.ensures legal) c.began_in.ensures))
