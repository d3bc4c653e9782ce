use Rattle.std.proofs.Common.{◌≡◌, ◌++◌, drop}
use Rattle.stripe_shard.specs.Slots.{pairs_of}
use Rattle.stripe_shard.proofs.map.list.Given as goal

-- The pairs listed so far, followed by the pairs in the remaining slots, are the pairs in all
-- slots.
abbrev pub invariant-loop-slot : goal.invariant-loop-slot
invariant-loop-slot l = l.pairs.items ++ pairs_of (drop l.slot-index l.slots) ≡ pairs_of l.slots
