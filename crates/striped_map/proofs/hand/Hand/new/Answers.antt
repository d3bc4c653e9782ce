use Rattle.std.proofs.Common.{ap}
use Rattle.striped_map.specs.Seats.{known}
use Rattle.striped_map.specs.Sound.{held_shards}
use Rattle.striped_map.proofs.Index.{indexed_none}
use Rattle.striped_map.proofs.HandSoundness.{sound_new, sound_lists}
use Rattle.striped_map.proofs.hand.Hand.new.Goals as goal

pub invariant_of-result : goal.invariant_of-result
invariant_of-result c = let n = c.args.seat.seat.table_id.slots in let v = known c.args.seat in
    record { sound = sound_lists n v _ _ _ (ap (held_shards c.args.seat) c.new.ensures.items) c.new-3.ensures.items c.new-4.ensures.items (sound_new n v c.requires.legal c.requires.unused c.requires.held); indexed = indexed_none _ _ c.new.ensures.items }
