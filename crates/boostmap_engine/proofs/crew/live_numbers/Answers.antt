use Rattle.std.proofs.Common.{true, false, sym, ap, ◌∙◌}
use Rattle.boostmap_engine.proofs.Lives.{next_number, all_seen}
use Rattle.boostmap_engine.proofs.crew.live_numbers.Goals as goal

pub loop-number-preserved : goal.loop-number-preserved
loop-number-preserved c = elim c.if-is_live.branch [
  | goal.then-is_live+in_ok-push w ↦
      next_number c.loop-number.number c.args.workers.now c.loop-number.numbers.items c.if-is_live.numbers.items
      c.index-workers-number.result true c.loop-number-test.true c.index-workers-number.is (sym c.is_live.ensures.step ∙ w.if-is_live.true)
      (ap (λ v. v.items) w.numbers-is ∙ w.in_ok-push.ensures.items) c.loop-number.invariant
  | goal.else-is_live w ↦
      next_number c.loop-number.number c.args.workers.now c.loop-number.numbers.items c.if-is_live.numbers.items
      c.index-workers-number.result false c.loop-number-test.true c.index-workers-number.is
      (sym c.is_live.ensures.step ∙ w.if-is_live.false)
      (ap (λ v. v.items) w.numbers-is) c.loop-number.invariant
]

pub returns : goal.returns
returns c = all_seen c.loop-number.number c.args.workers.now c.loop-number.numbers.items c.loop-number-test.false c.loop-number.invariant
