use Rattle.std.specs.Prelude.{◌≡◌, map, reverse}
use Rattle.thread_runs.proofs.runs.unzip.Given as goal

abbrev pub invariant-loop-report : goal.invariant-loop-report
invariant-loop-report g l =
    (l.callers.items ≡ map (λ report. report.caller) l.yielded)
    × (map (λ row. row.items) l.rows.items ≡ map (λ report. reverse report.outcomes.items) l.yielded)
