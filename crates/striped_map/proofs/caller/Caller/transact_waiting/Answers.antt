use Rattle.std.proofs.Common.{◌≡◌, ◌-◌, suc, true, false, Bool, refl, sym, ◌∙◌, arith}
use Rattle.striped_map.proofs.Tries.{busy_fails, still, since_failed, fails_as, one_more}
use Rattle.striped_map.proofs.CallSpans.{since_then}
use Rattle.striped_map.proofs.caller.Caller.transact_waiting.Goals as goal

is_closed : (b : Bool) → (b ≡ true → ⊥) → b ≡ false
is_closed true not = absurd (not refl)
is_closed false not = refl

pub loop-done-preserved : goal.loop-done-preserved
loop-done-preserved g c =
    let inv = c.loop-done.invariant in let a = c.loop-done.self in let b = c.attempt.new.self in
    let was : a.is_open ≡ false = is_closed a.is_open (λ is. absurd (cc (sym c.in-Err-Busy.field-0-is ∙ (c.in-Err-Busy.ensures.open is).0))) in
    let fails = busy_fails a b _ (fails_as a b _ _ c.in-Err-Busy.field-0-is (c.in-Err-Busy.ensures.err was)) in
    let once : suc (c.args.tries - c.loop-done.left) ≡ c.args.tries - (c.loop-done.left - 1) = omega arith in (
      fails.closed ∙ sym was ∙ inv.0,
      since_then c.args.self.now a b inv.1 fails.since,
      (omega arith),
      one_more (c.args.tries - c.loop-done.left) (c.args.tries - (c.loop-done.left - 1)) c.args.self.now a b c.in-Err-Busy.holder once inv.3 fails,
    )

pub returns-in-Ok-clause-ok : goal.returns-in-Ok-clause-ok
returns-in-Ok-clause-ok g c =
    let inv = c.loop-done.invariant in let run = c.in-Ok.ensures.ok in
    (c.loop-done.self, run.0, run.1, run.2, inv.1, run.3, c.args.tries - c.loop-done.left, (omega arith), inv.3)

pub returns-in-Err-Refused-clause-since : goal.returns-in-Err-Refused-clause-since
returns-in-Err-Refused-clause-since g c = since_failed _ c.args.self.now c.loop-done.self c.attempt.new.self _ c.loop-done.invariant.1 c.in-Err-Refused.ensures.open c.in-Err-Refused.ensures.err

pub returns-in-Err-Refused-clause-open : goal.returns-in-Err-Refused-clause-open
returns-in-Err-Refused-clause-open g c = λ is.
    let inv = c.loop-done.invariant in let refused = c.in-Err-Refused.ensures.open (inv.0 ∙ is) in
    (sym c.in-Err-Refused.field-0-is ∙ refused.0, refused.1 ∙ still _ _ c.args.self.now c.loop-done.self inv.3 (inv.0 ∙ is))

pub returns-in-Err-Refused-clause-err : goal.returns-in-Err-Refused-clause-err
returns-in-Err-Refused-clause-err g c = λ was.
    let inv = c.loop-done.invariant in
    (c.args.tries - c.loop-done.left, (omega arith), (λ holder is. absurd (cc (is))), c.loop-done.self, inv.3, fails_as c.loop-done.self c.attempt.new.self _ _ c.in-Err-Refused.field-0-is (c.in-Err-Refused.ensures.err (inv.0 ∙ was)))

pub returns-then-left-eq0-clause-since : goal.returns-then-left-eq0-clause-since
returns-then-left-eq0-clause-since g c = since_failed _ c.args.self.now c.loop-done.self c.attempt.new.self _ c.loop-done.invariant.1 c.in-Err-Busy.ensures.open c.in-Err-Busy.ensures.err

pub returns-then-left-eq0-clause-err : goal.returns-then-left-eq0-clause-err
returns-then-left-eq0-clause-err g c = λ was.
    let inv = c.loop-done.invariant in
    (c.args.tries - c.loop-done.left, (omega arith), (λ holder is. (omega arith)), c.loop-done.self, inv.3, fails_as c.loop-done.self c.attempt.new.self _ _ c.in-Err-Busy.field-0-is (c.in-Err-Busy.ensures.err (inv.0 ∙ was)))
