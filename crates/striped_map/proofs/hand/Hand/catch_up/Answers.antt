use Rattle.std.proofs.Common.{sym, subst}
use Rattle.striped_map.specs.declared.seat.MapSeat.{MapSeat}
use Rattle.striped_map.specs.Seats.{known}
use Rattle.striped_map.specs.Sound.{IsSound, held_shards}
use Rattle.striped_map.proofs.HandSoundness.{sound_looked}
use Rattle.striped_map.proofs.hand.Hand.catch_up.Goals as goal

pub invariant_of-self : goal.invariant_of-self
invariant_of-self c = record {
  sound = sound_looked c.args.map.now c.args.self.now c.catch_up.new.seat c.requires.map c.catch_up.ensures.seat c.catch_up.ensures.shards c.catch_up.ensures.sees;
  indexed = c.args.self.now.indexed;
}

pub invariant_of-other : goal.invariant_of-other
invariant_of-other c = let other = c.args.other.now in record {
  sound = subst (λ (z : MapSeat). IsSound z.seat.table_id.slots (known z) (held_shards z other.held.items) other.order.items other.levels.items) (sym c.catch_up.ensures.same) other.sound;
  indexed = other.indexed;
}
