use Rattle.std.proofs.Common.{◌∙◌, length, sym, ap}
use Rattle.thread_runs.proofs.Vocabulary.{HasReported, new_ticket}
use Rattle.script_worker.proofs.Vocabulary.{length-map, length-map-range_with_len, length_push, YieldsList-end, YieldsList-from_vec}
use Rattle.script_worker.proofs.Vocabulary.{YieldsList-turn}
use Rattle.thread_runs.proofs.{Lists.each_push, Reports.shown_at}
use Rattle.thread_runs.proofs.threads.join_all.Goals as goal

pub loop-thread-preserved : goal.loop-thread-preserved
loop-thread-preserved g c =
    let inv = c.loop-thread.invariant in
    let began = c.into_iter-thread-iterator.ensures.into_iter_gives in
    let thread = c.in-Some.thread in
    let report = c.in_ok-report.report in
    let reports = c.loop-thread.reports.items in
    let items = c.in_ok-push.ensures.items in
    let turn = YieldsList-turn (YieldsList-from_vec {s = c.into_iter-thread-iterator.result} c.args.threads.items began.0 (began.1 ∙ c.args.threads.ok.0)) c.loop-thread.yielded c.loop-thread.thread-iterator c.loop-thread.yielded_by c.next.result c.next.new.self thread c.in-Some.is c.next.ensures.steps in
    let pass = shown_at (λ t. t.promise.pass.value) (new_ticket c.args.limits c.requires.words) c.args.limits.callers c.args.threads.items _ thread c.requires.are turn in
    let here = rw pass at c.in_ok-report.ensures in
    let P = HasReported c.args.limits.half g.T.Terms.workers g.T.Terms.tries g.T.Terms.scripts in (
      rw (items, length_push reports report, length_push c.loop-thread.yielded thread, inv.0),
      rw items (each_push P reports report inv.1 (rw inv.0 here)),
    )

pub returns-clause-len : goal.returns-clause-len
returns-clause-len g c =
    let began = c.into_iter-thread-iterator.ensures.into_iter_gives in
    let whole = YieldsList-end (YieldsList-from_vec {s = c.into_iter-thread-iterator.result} c.args.threads.items began.0 (began.1 ∙ c.args.threads.ok.0)) c.loop-thread.yielded c.loop-thread.thread-iterator c.loop-thread.yielded_by c.next.result c.next.new.self c.in-None.is c.next.ensures.steps in
    c.loop-thread.invariant.0 ∙ whole.1 ∙ sym (length-map c.args.threads.items (λ t. t.promise.pass.value)) ∙ ap length c.requires.are ∙ length-map-range_with_len (new_ticket c.args.limits c.requires.words) 0 c.args.limits.callers
