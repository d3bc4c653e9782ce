use Rattle.std.specs.Prelude.{◌≢◌, ◌<◌, ◌-◌, ℕ, None, slice_index_or}
use Rattle.striped_map.proofs.host.missing.Given as goal

abbrev pub invariant-loop-c : goal.invariant-loop-c
invariant-loop-c l = (k : ℕ) → 0 < k → k < l.c → slice_index_or l.theirs.items (k - 1) None ≢ None
