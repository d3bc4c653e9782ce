use Rattle.std.proofs.Common.{sym, subst}
use Rattle.striped_map.specs.Seats.{known}
use Rattle.striped_map.specs.Sound.{IsSound, held_shards}
use Rattle.striped_map.proofs.HandSoundness.{sound_shards, sound_retired}
use Rattle.striped_map.proofs.hand.Hand.take_in.Goals as goal

pub invariant_of-self : goal.invariant_of-self
invariant_of-self c = let me = c.args.self.now in let n = c.args.map.now.table.shared.table_id.slots in let a = me.seat in let b = c.take_in.new.seat in let v = known a in let w = known b in let ks = me.held.items in
    let s : IsSound n v (held_shards a ks) me.order.items me.levels.items = subst (λ z. IsSound z.slots v (held_shards a ks) me.order.items me.levels.items) c.requires.map me.sound in
    record {
      sound = subst (λ z. IsSound z.slots w (held_shards b ks) me.order.items me.levels.items) (sym c.take_in.ensures.seat)
          (sound_shards n w a b ks me.order.items me.levels.items c.take_in.ensures.shards
          (sound_retired n v (known c.args.other) w (held_shards a ks) me.order.items me.levels.items s c.take_in.ensures.taken));
      indexed = me.indexed;
    }
