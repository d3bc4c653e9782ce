use Rattle.std.proofs.Common.{◌≡◌, ◌+◌, ◌≤◌, drop, length}
use Rattle.stripe_shard.specs.MapAt.{map_of}
use Rattle.stripe_shard.specs.Slots.{pairs_of}
use Rattle.stripe_shard.proofs.map.put_all.Given as goal

-- The keys in the slots from `left` on have been put into the map.
abbrev pub invariant-loop-left : goal.invariant-loop-left
invariant-loop-left l = record {
  within : l.left ≤ length l.slots;
  content : l.map.content ≡ map_of (pairs_of (drop l.left l.slots));
  room : l.initial.map.spare ≤ l.map.spare + length (pairs_of (drop l.left l.slots));
}

abbrev pub decreases-loop-left : goal.decreases-loop-left
decreases-loop-left l = l.left
