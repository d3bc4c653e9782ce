use Rattle.std.proofs.Common.{◌≡◌, ℕ, List, Some, slice_get, sym, subst}
use Rattle.striped_map.specs.Seats.{known}
use Rattle.striped_map.specs.Sound.{IsIndexed, IsSound, held_shards}
use Rattle.striped_map.proofs.Index.{appended_at, indexed_longer}
use Rattle.striped_map.proofs.hand.Hand.take_with_room.Goals as goal

-- Memory was refused, for one more stripe or for the index.
pub invariant_of-self : goal.invariant_of-self
invariant_of-self c = let me = c.args.self.now in record {
  sound = subst (λ (l : List ℕ). IsSound me.seat.seat.table_id.slots (known me.seat) (held_shards me.seat l) me.order.items me.levels.items) (sym c.reserve.ensures.items) me.sound;
  indexed = subst (λ (l : List ℕ). IsIndexed l me.index.items) (sym c.reserve.ensures.items) me.indexed;
}

pub invariant_of-self-2 : goal.invariant_of-self-2
invariant_of-self-2 c = let me = c.args.self.now in record {
  sound = subst (λ (l : List ℕ). IsSound me.seat.seat.table_id.slots (known me.seat) (held_shards me.seat l) me.order.items me.levels.items) (sym c.reserve.ensures.items) me.sound;
  indexed = subst (λ (l : List ℕ). IsIndexed l c.fill.new.self.items) (sym c.reserve.ensures.items)
      (indexed_longer me.held.items me.index.items c.fill.new.self.items (λ stripe place at. subst (λ (l : List ℕ). slice_get l stripe ≡ Some place) (sym c.fill.ensures.items) (appended_at me.index.items _ stripe place at)) me.indexed);
}
