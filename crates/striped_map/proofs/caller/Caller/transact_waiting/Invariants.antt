use Rattle.std.proofs.Common.{◌≡◌, ◌≤◌, ◌-◌}
use Rattle.striped_map.specs.Attempts.{on_callers, FailsBusy}
use Rattle.striped_map.specs.Callers.{IsSince}
use Rattle.striped_map.proofs.caller.Caller.transact_waiting.Given as goal

abbrev pub invariant-loop-done : goal.invariant-loop-done
invariant-loop-done g l =
    (l.self.is_open ≡ l.fn.self.is_open) × IsSince l.fn.self l.self × (l.left ≤ l.fn.tries)
    × FailsBusy (on_callers (λ t. t.now.me.now) (λ t r u. g.F.Fn.post l.fn.work (t, tt) (r, (u, tt))))
    (l.fn.tries - l.left) l.fn.self l.self

abbrev pub decreases-loop-done : goal.decreases-loop-done
decreases-loop-done g l = l.left
