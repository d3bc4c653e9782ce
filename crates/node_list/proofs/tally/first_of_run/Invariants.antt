use Rattle.std.proofs.Common.{◌≡◌, ◌+◌, ◌-◌, ◌<◌, ◌≤◌, ℕ, slice_index_or}
use Rattle.node_list.proofs.tally.first_of_run.Given as goal

abbrev pub invariant-run : goal.invariant-run
invariant-run l = (l.from ≤ l.place) × ((other : ℕ) → l.from ≤ other → other < l.place → slice_index_or l.counts other 0 ≡ 0)

abbrev pub decreases-run : goal.decreases-run
decreases-run l = l.from + 64 - l.place
