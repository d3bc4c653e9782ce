use Rattle.std.specs.Prelude.{◌≡◌, length}
use Rattle.thread_runs.proofs.Vocabulary.{Each, HasReported}
use Rattle.thread_runs.proofs.threads.join_all.Given as goal

abbrev pub invariant-loop-thread : goal.invariant-loop-thread
invariant-loop-thread g l =
    (length l.reports.items ≡ length l.yielded) × Each (HasReported l.fn.limits.half g.T.Terms.workers g.T.Terms.tries g.T.Terms.scripts) l.reports.items
