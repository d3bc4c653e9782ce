use Rattle.std.proofs.Common.{ap, subst}
use Rattle.txn_words.specs.declared.answer.Answer.TheVariants as answers
use Rattle.txn_words.specs.declared.step.Step.TheVariants.{Back}
use Rattle.txn_trace.specs.Now.{now}
use Rattle.boost_core.specs.Plain.{Returns}
use Rattle.boost_core.specs.State.{State}
use Rattle.owned_map.proofs.Levels.{returned}
use Rattle.owned_map.proofs.Savepoints.{is_back}
use Rattle.owned_map.proofs.Steps.{refused}
use Rattle.owned_map.proofs.owned_map.OwnedMap.back.Goals as goal

pub returns-in-Returned : goal.returns-in-Returned
returns-in-Returned c = record {
  goes_on = returned c.args.self.now.core c.back-answer.new.self c.args.caller c.args.level c.in-Returned.field-0 c.trace-legal.ensures.legal.shape c.in-Returned.ensures.returns;
  ok = is_back c.args.self.now.core c.back-answer.new.self c.args.caller c.args.level c.in-Returned.field-0 c.trace-before.ensures.legal c.trace-legal.ensures.legal.shape c.in-Returned.ensures.returns;
  err = tt;
  did = subst (λ level. Returns c.args.self.now.core c.args.caller c.args.level (answers.Returned level) c.back-answer.new.self) c.in-Returned.ensures.returns.0 c.in-Returned.ensures.returns;
  stopped = tt;
}

pub returns-in-Refused : goal.returns-in-Refused
returns-in-Refused c = record {
  goes_on = refused c.args.self.now.core c.back-answer.new.self c.args.caller (Back c.args.caller c.args.level) c.in-Refused.refusal c.in-Refused.ensures.returns.move;
  ok = tt;
  err = ap (λ (s : State). now s.history) c.in-Refused.ensures.returns.move.state;
  did = tt;
  stopped = c.in-Refused.ensures.returns;
}
