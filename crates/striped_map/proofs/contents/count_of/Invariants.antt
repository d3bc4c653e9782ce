use Rattle.std.specs.Prelude.{◌≡◌, ◌+◌, drop, sum_by}
use Rattle.striped_map.specs.Contents.{count_at}
use Rattle.striped_map.specs.Seats.{IsOf, known, shard_in}
use Rattle.striped_map.specs.Sound.{held_shards}
use Rattle.striped_map.proofs.contents.count_of.Given as goal

abbrev pub invariant-loop-place : goal.invariant-loop-place
invariant-loop-place l = record {
  seat : IsOf l.seat l.map;
  knows : known l.seat ≡ known l.initial.seat;
  shards : shard_in l.seat ≡ shard_in l.initial.seat;
  count : l.count + sum_by count_at (held_shards l.initial.seat (drop l.place l.held.items)) ≡ sum_by count_at (held_shards l.initial.seat l.held.items);
}
