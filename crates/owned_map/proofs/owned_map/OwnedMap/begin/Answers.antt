use Rattle.owned_map.proofs.Steps.{begins}
use Rattle.txn_words.specs.declared.step.Step.TheVariants.{Begin}
use Rattle.owned_map.proofs.Only.{moved}
use Rattle.std.proofs.Common.{inl, refl}
use Rattle.owned_map.proofs.owned_map.OwnedMap.begin.Goals as goal

pub returns-in-Began-clause-ok : goal.returns-in-Began-clause-ok
returns-in-Began-clause-ok c = inl (begins c.args.self.now.core c.take_step.new.self.core c.args.caller _ c.trace-legal.ensures.legal c.in-Began.ensures.moves).0

pub returns-in-Began-clause-same : goal.returns-in-Began-clause-same
returns-in-Began-clause-same c = (begins c.args.self.now.core c.take_step.new.self.core c.args.caller _ c.trace-legal.ensures.legal c.in-Began.ensures.moves).1

pub returns-in-Began-clause-began : goal.returns-in-Began-clause-began
returns-in-Began-clause-began c = record {
  txn = _;
  event = c.in-Began.ensures.event;
  same = (begins c.args.self.now.core c.take_step.new.self.core c.args.caller _ c.trace-legal.ensures.legal c.in-Began.ensures.moves).1;
  beside = moved c.args.caller c.args.self.now.core c.take_step.new.self.core (Begin c.args.caller) _ (record { whose = refl; quiet = refl }) c.in-Began.ensures.moves;
}
