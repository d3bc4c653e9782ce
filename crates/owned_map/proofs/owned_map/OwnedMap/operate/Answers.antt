use Rattle.std.proofs.Common.{◌≡◌, true, Option, Some, None, is_some, is_none, refl, rules, inl}
use Rattle.std.proofs.lemmas.Bool.{false≢true}
use Rattle.txn_words.specs.declared.stop.Stop.TheVariants as stops
use Rattle.owned_map.proofs.Operations.{does_op, stops_op}
use Rattle.owned_map.proofs.owned_map.OwnedMap.operate.Goals as goal

absent : {X : Type 0} (reply : Option X) → is_none reply ≡ true → is_some reply ≡ true → ⊥
absent None none there = false≢true there
absent (Some value) none there = false≢true none

pub returns-then-is_none : goal.returns-then-is_none
returns-then-is_none c =
    does_op c.args.caller c.args.op c.in-Done.reply c.args.self.now.core c.ask.new.self.core c.grow.new.self.core c.trace-legal.ensures.legal c.in-Done.ensures c.grow.ensures
    (λ there. absurd (absent c.in-Done.reply (search rules) there))

pub returns-else-is_none : goal.returns-else-is_none
returns-else-is_none c =
    does_op c.args.caller c.args.op c.in-Done.reply c.args.self.now.core c.ask.new.self.core c.ask.new.self.core c.trace-legal.ensures.legal c.in-Done.ensures (inl refl) (λ there. refl)

pub returns-in-Busy : goal.returns-in-Busy
returns-in-Busy c = stops_op c.args.caller c.args.op (stops.Busy c.in-Busy.holder) c.args.self.now.core c.ask.new.self.core c.trace-legal.ensures.legal c.in-Busy.ensures

pub returns-in-Refused : goal.returns-in-Refused
returns-in-Refused c = stops_op c.args.caller c.args.op (stops.Refused c.in-Refused.refusal) c.args.self.now.core c.ask.new.self.core c.trace-legal.ensures.legal c.in-Refused.ensures
