use Rattle.std.proofs.Common.{map, sym, subst}
use Rattle.striped_map.specs.Steps.{shard_in_slot}
use Rattle.striped_map.specs.Sound.{IsSound, with_shard}
use Rattle.striped_map.proofs.hand.Hand.make_room.Goals as goal

pub invariant_of-self : goal.invariant_of-self
invariant_of-self c = let me = c.args.self.now in record {
  sound = subst (λ z. IsSound z.table_id.slots z.me.0 (map (with_shard (λ k. shard_in_slot k z.me.1)) me.held.items) me.order.items me.levels.items) (sym c.make_room.ensures.seat) me.sound;
  indexed = me.indexed;
}
