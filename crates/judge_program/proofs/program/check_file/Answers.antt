use Rattle.judge_program.proofs.CommandEnds.{check_done, check_failed, check_not_opened, order_done, order_failed}
use Rattle.judge_program.proofs.program.check_file.Goals as goal

pub returns-in_err-source : goal.returns-in_err-source
returns-in_err-source g c =
    check_not_opened c.args.order c.args.shows_order c.args.name.now (g.S.System.bytes c.args.system.now) _ c.from_residual.result c.in_err-source.field-0.0 c.in_err-source.ensures.err c.from_residual.ensures.1

pub returns-in_err-check-in-Given : goal.returns-in_err-check-in-Given
returns-in_err-check-in-Given g c =
    rw c.in-Given.is (check_failed c.in-Given.by_commits c.args.shows_order c.args.name.now (g.S.System.bytes c.args.system.now) _ _ _ c.from_residual-in_err-check-in-Given.result c.in_err-check-in-Given.field-0.0 c.in_ok-source.ensures.ok c.in_err-check-in-Given.ensures.fault c.from_residual-in_err-check-in-Given.ensures.1)

pub returns-in_err-check_serializable-in-Any : goal.returns-in_err-check_serializable-in-Any
returns-in_err-check_serializable-in-Any g c =
    rw c.in-Any.is (order_failed c.in-Any.real_time c.in-Any.most_branches c.args.shows_order c.args.name.now (g.S.System.bytes c.args.system.now) _ _ _ c.from_residual-in_err-check_serializable-in-Any.result c.in_err-check_serializable-in-Any.field-0.0 c.in_ok-source.ensures.ok c.in_err-check_serializable-in-Any.ensures.fault c.from_residual-in_err-check_serializable-in-Any.ensures.1)

pub returns-in_ok-check_serializable-in-Any : goal.returns-in_ok-check_serializable-in-Any
returns-in_ok-check_serializable-in-Any g c =
    rw c.in-Any.is (order_done c.in-Any.real_time c.in-Any.most_branches c.args.shows_order c.args.name.now (g.S.System.bytes c.args.system.now) _ _ _ c.in_ok-check_serializable-in-Any.field-0 c.in_ok-source.ensures.ok c.in_ok-check_serializable-in-Any.ensures.answers)
