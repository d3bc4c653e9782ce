use Rattle.std.specs.Prelude.{◌≡◌, take}
use Rattle.striped_map.specs.Contents.{pairs_in}
use Rattle.striped_map.specs.Seats.{IsOf, known, shard_in, stripes_of}
use Rattle.striped_map.specs.Sound.{held_shards}
use Rattle.striped_map.proofs.contents.pairs_of.Given as goal

abbrev pub invariant-loop-place : goal.invariant-loop-place
invariant-loop-place l = record {
  seat : IsOf l.seat l.map;
  knows : known l.seat ≡ known l.initial.seat;
  shards : shard_in l.seat ≡ shard_in l.initial.seat;
  pairs : l.pairs.items ≡ pairs_in (stripes_of l.map) (held_shards l.initial.seat (take l.place l.held.items));
}
