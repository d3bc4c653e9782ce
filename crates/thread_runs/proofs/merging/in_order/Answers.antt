use Rattle.std.proofs.Common.{◌≡◌, length, refl, ap, ◌∙◌, arith}
use Rattle.script_worker.proofs.Vocabulary.{length_push}
use Rattle.thread_runs.proofs.Ordering.{left_more, left_all, row_at}
use Rattle.thread_runs.proofs.merging.in_order.Goals as goal

pub loop-number-init : goal.loop-number-init
loop-number-init c =
    let items = c.new-outcomes.ensures.items in
    (ap length items, record { as_many = refl; each = λ i was is. (was, is, rw items) })

pub unreachable-requires : goal.unreachable-requires
unreachable-requires c =
    let inv = c.loop-number.invariant in
    let here = row_at (λ r. r.items) _ _ _ _ _ _ _ _ refl c.requires.some (c.len-workers.ensures ∙ c.args.rows.ok.0) inv.0
    c.loop-number-test.true c.requires.rows inv.1 c.index_mut.ensures.value in
    omega (arith, here.2, c.in_default.ensures.cases.0, c.index_mut.result.now.ok.0)

pub loop-number-preserved : goal.loop-number-preserved
loop-number-preserved c =
    let inv = c.loop-number.invariant in
    let items = c.in_ok-push.ensures.items in
    let here = row_at (λ r. r.items) _ _ _ _ _ _ _ _ refl c.requires.some (c.len-workers.ensures ∙ c.args.rows.ok.0) inv.0
    c.loop-number-test.true c.requires.rows inv.1 c.index_mut.ensures.value in (
      rw (items, length_push c.loop-number.outcomes.items c.in-Some.outcome, inv.0),
      rw items
          (left_more (λ r. r.items) _ _ _ _ _ _ c.pop.new.self _ c.requires.some refl here.0 here.1 c.in-Some.ensures.items inv.1),
    )

pub returns-clause-order : goal.returns-clause-order
returns-clause-order c =
    let inv = c.loop-number.invariant in
    let same : length c.loop-number.outcomes.items ≡ length c.args.scripts.now =
    omega (arith, inv.0, c.loop-number-test.false, c.loop-number.auto.number-end) in
    left_all (λ r. r.items) _ _ _ _ _ same c.requires.rows inv.1
