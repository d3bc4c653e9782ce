use Rattle.std.proofs.Common.{ap}
use Rattle.txn_words.specs.declared.step.Step.TheVariants.{Save}
use Rattle.txn_trace.specs.Now.{now}
use Rattle.boost_core.specs.State.{State}
use Rattle.owned_map.proofs.Levels.{saved, saved_same}
use Rattle.owned_map.proofs.Savepoints.{is_saved}
use Rattle.owned_map.proofs.Steps.{refused}
use Rattle.owned_map.proofs.owned_map.OwnedMap.save.Goals as goal

pub returns-in-Saved : goal.returns-in-Saved
returns-in-Saved c = record {
  goes_on = saved c.args.self.now.core c.take_step.new.self.core c.args.caller c.in-Saved.level c.in-Saved.ensures.moves;
  ok = is_saved c.args.self.now.core c.take_step.new.self.core c.args.caller c.in-Saved.level c.trace-legal.ensures.legal c.in-Saved.ensures.moves;
  same = saved_same c.args.self.now.core c.take_step.new.self.core c.args.caller c.in-Saved.level c.trace-legal.ensures.legal c.in-Saved.ensures.moves;
  did = c.in-Saved.ensures.event;
  stopped = tt;
}

pub returns-in-Refused : goal.returns-in-Refused
returns-in-Refused c = record {
  goes_on = refused c.args.self.now.core c.take_step.new.self.core c.args.caller (Save c.args.caller) c.in-Refused.refusal c.in-Refused.ensures.moves;
  ok = tt;
  same = ap (λ (s : State). now s.history) c.in-Refused.ensures.moves.state;
  did = tt;
  stopped = c.in-Refused.ensures.event;
}
