use Rattle.std.proofs.Common.{arith, refl, sym, ◌∙◌, take_all}
use Rattle.boost_core.proofs.Runs.{Moves-more, words_stay}
use Rattle.boost_core.proofs.machine.Core.run.Goals as goal

pub loop-step-init : goal.loop-step-init
loop-step-init c = record {
  moves = rw c.in_ok-answers.ensures.items refl;
  count = c.in_ok-answers.ensures.len;
  words = refl;
  room = omega (arith, c.in_ok-answers.ensures.capacity);
}

pub step-answer-requires : goal.step-answer-requires
step-answer-requires c = λ words. c.requires (sym c.loop-step.invariant.words ∙ words) c.loop-step.step-index _ c.loop-step-test.true

pub unwrap-requires : goal.unwrap-requires
unwrap-requires c = c.push.ensures.succeeds (omega (arith, c.loop-step-test.true, c.loop-step.invariant.count, c.loop-step.invariant.room))

pub loop-step-preserved : goal.loop-step-preserved
loop-step-preserved c =
    let items = rw c.unwrap.ensures at c.push.ensures.items in
    record {
      moves = rw items (Moves-more c.args.self.now c.loop-step.self c.step-answer.new.self c.args.steps.now c.loop-step.step-index _ c.loop-step.answers.items c.step-answer.result c.loop-step-test.true c.loop-step.invariant.moves c.step-answer.ensures.event);
      count = let len = rw c.unwrap.ensures at c.push.ensures.len in omega (arith, len, c.loop-step.invariant.count);
      words = words_stay _ _ _ _ c.step-answer.ensures.event.move ∙ c.loop-step.invariant.words;
      room = omega (arith, c.push.ensures.capacity, c.loop-step.invariant.room);
    }

pub returns-clause-ok : goal.returns-clause-ok
returns-clause-ok c = rw (take_all c.loop-step.step-index c.args.steps.now c.loop-step-test.false) at c.loop-step.invariant.moves
