use Rattle.std.specs.Prelude.{◌≡◌, length}
use Rattle.txn_trace.specs.Now.{now}
use Rattle.txn_words.specs.declared.stance.Phase.TheVariants.{Closed}
use Rattle.striped_map.specs.Handling.{idle}
use Rattle.striped_map.specs.Seats.{IsOf, known, stripes_of}
use Rattle.striped_map.specs.Sound.{AreHeld, held_shards}
use Rattle.striped_map.specs.Steps.{IsAt}
use Rattle.striped_map.proofs.hand.give_all.Given as goal

abbrev pub invariant-loop-stripe : goal.invariant-loop-stripe
invariant-loop-stripe l = record {
  map : IsOf l.seat l.map;
  over : IsAt Closed (known l.seat);
  idle : idle (known l.seat) ≡ idle (known l.initial.seat);
  shards : AreHeld (stripes_of l.map) (known l.seat) (held_shards l.seat l.held.items) (now (known l.seat).seen);
}

abbrev pub decreases-loop-stripe : goal.decreases-loop-stripe
decreases-loop-stripe l = length l.held.items
