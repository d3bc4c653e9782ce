use Rattle.std.proofs.Common.{length, ◌-◌, ◌≡◌, ℕ, ◌%◌, ◌<◌, ◌≤◌}
use Rattle.script_worker.proofs.way.Way.first_left.Given as goal

abbrev pub invariant-loop-number : goal.invariant-loop-number
invariant-loop-number l =
    (l.fn.self.turn ≤ l.number) × (l.number % l.fn.work.workers ≡ l.fn.self.turn % l.fn.work.workers)

abbrev pub decreases-loop-number : goal.decreases-loop-number
decreases-loop-number l = length l.work.scripts.now - l.number
