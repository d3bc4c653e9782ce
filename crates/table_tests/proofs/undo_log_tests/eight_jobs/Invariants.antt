use Rattle.std.proofs.Common.{◌≡◌, ◌+◌, length}
use Rattle.table_tests.proofs.undo_log_tests.eight_jobs.Given as goal

abbrev pub invariant-loop-number : goal.invariant-loop-number
invariant-loop-number l = (length l.log.jobs + 1 ≡ l.number) × (l.log.room + l.number ≡ 9)
