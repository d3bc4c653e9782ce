use Rattle.std.specs.Prelude.{◌≡◌}
use Rattle.thread_tests.proofs.map_tests.by_hand.drive.Given as goal

abbrev pub invariant-loop : goal.invariant-loop
invariant-loop g l = (l.me.number ≡ l.fn.me.number) × (l.me.limits ≡ l.fn.me.limits) × (l.me.claims ≡ l.fn.me.claims) × (l.drive.caller ≡ l.fn.me.number) × (l.drive.call ≡ l.fn.call)
