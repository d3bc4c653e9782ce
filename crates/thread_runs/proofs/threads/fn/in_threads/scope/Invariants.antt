use Rattle.std.specs.Prelude.{◌≡◌, map}
use Rattle.thread_runs.proofs.threads.fn.in_threads.scope.Given as goal

abbrev pub invariant-loop-pass : goal.invariant-loop-pass
invariant-loop-pass g l = map (λ t. t.promise.pass.value) l.threads.items ≡ l.yielded
