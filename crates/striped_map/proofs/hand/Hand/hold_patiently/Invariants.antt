use Rattle.std.specs.Prelude.{◌≡◌}
use Rattle.txn_words.specs.declared.stance.Phase.TheVariants.{Opened}
use Rattle.striped_map.specs.Hands.{GoesOn}
use Rattle.striped_map.specs.Seats.{IsOf, known}
use Rattle.striped_map.specs.Steps.{IsAt}
use Rattle.striped_map.proofs.hand.Hand.hold_patiently.Given as goal

abbrev pub invariant-loop : goal.invariant-loop
invariant-loop l = record {
  map : IsOf l.self.seat l.map;
  opened : IsAt Opened (known l.self.seat);
  levels : l.self.levels ≡ l.initial.self.levels;
  goes_on : GoesOn l.map l.initial.self l.self;
}
