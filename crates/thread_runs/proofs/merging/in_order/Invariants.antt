use Rattle.std.specs.Prelude.{◌≡◌, length}
use Rattle.thread_runs.proofs.Ordering.{IsLeft}
use Rattle.thread_runs.proofs.merging.in_order.Given as goal

abbrev pub invariant-loop-number : goal.invariant-loop-number
invariant-loop-number l =
    (length l.outcomes.items ≡ l.number) × IsLeft (λ row. row.items) (length l.fn.rows.items) l.fn.rows.items l.left.items l.outcomes.items
