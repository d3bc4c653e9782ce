use Rattle.std.proofs.Common.{rules, ℕ, ◌<◌, sym, subst, ◌∙◌}
use Rattle.thread_runs.proofs.Reports.{reported_as, as_many_rows, rows_whole, run_true}
use Rattle.thread_runs.proofs.runs.run_under.Goals as goal

pub in_order-requires-clause-some : goal.in_order-requires-clause-some
in_order-requires-clause-some g c =
    let reports = c.in_ok-reports.reports.items in
    let each = reported_as c.args.limits.half c.args.workers _ c.args.tries _ c.args.scripts.now _ reports c.requires.workers c.requires.tries c.requires.scripts c.in_ok-reports.ensures.each in
    let as_many = c.in_ok-reports.ensures.len ∙ sym c.requires.callers ∙ c.requires.workers in
    let some : 0 < c.args.workers = search rules in
    subst (λ (n : ℕ). 0 < n) (sym (as_many_rows (λ row. row.items) c.args.limits.half c.args.workers c.args.tries c.args.scripts.now reports c.in_ok-callers.rows.items as_many each c.in_ok-callers.ensures.rows)) some

pub in_order-requires-clause-rows : goal.in_order-requires-clause-rows
in_order-requires-clause-rows g c =
    let reports = c.in_ok-reports.reports.items in
    let each = reported_as c.args.limits.half c.args.workers _ c.args.tries _ c.args.scripts.now _ reports c.requires.workers c.requires.tries c.requires.scripts c.in_ok-reports.ensures.each in
    let as_many = c.in_ok-reports.ensures.len ∙ sym c.requires.callers ∙ c.requires.workers in
    rows_whole (λ row. row.items) c.args.limits.half c.args.workers c.args.tries c.args.scripts.now reports c.in_ok-callers.rows.items as_many each c.in_ok-callers.ensures.rows

pub returns-clause-ran : goal.returns-clause-ran
returns-clause-ran g c =
    let reports = c.in_ok-reports.reports.items in
    let each = reported_as c.args.limits.half c.args.workers _ c.args.tries _ c.args.scripts.now _ reports c.requires.workers c.requires.tries c.requires.scripts c.in_ok-reports.ensures.each in
    let as_many = c.in_ok-reports.ensures.len ∙ sym c.requires.callers ∙ c.requires.workers in
    let some : 0 < c.args.workers = search rules in
    run_true (λ row. row.items) c.args.limits c.in-Ok.closed.core.limits c.args.workers c.args.tries c.args.scripts.now reports c.in_ok-callers.callers.items c.in_ok-callers.rows.items c.in_ok-outcomes.outcomes.items
    c.into_trace-trace.result.items c.in-Ok.closed.core.history some as_many each c.in_ok-callers.ensures.callers c.in_ok-callers.ensures.rows c.in_ok-outcomes.ensures.len c.in_ok-outcomes.ensures.order
    c.into_trace-trace.ensures.value (c.in-Ok.ensures.limits ∙ c.reserve-room.ensures ∙ c.in_ok-map.ensures.map) (sym c.requires.workers ∙ c.requires.callers) c.in-Ok.ensures.legal c.into_trace-trace.ensures.callers c.in-Ok.ensures.own
