use Rattle.std.proofs.Common.{◌≡◌, ℕ, ◌<◌, false}
use Rattle.stripe_shard.specs.Probes.{stops}
use Rattle.stripe_shard.specs.Slots.{key_at}
use Rattle.stripe_shard.proofs.probe.first_stop.Given as goal

-- No slot before `i` has stopped the probe.
abbrev pub invariant-loop-i : goal.invariant-loop-i
invariant-loop-i l = (j : ℕ) → j < l.i → stops (key_at l.slots j) l.key ≡ false
