use Rattle.judge_program.proofs.CommandEnds.{why_done, why_failed, why_not_opened, reason_done, reason_failed}
use Rattle.judge_program.proofs.program.explain_file.Goals as goal

pub returns-in_err-source : goal.returns-in_err-source
returns-in_err-source g c =
    why_not_opened c.args.order c.args.as_graph c.args.name.now (g.S.System.bytes c.args.system.now) _ c.from_residual.result c.in_err-source.field-0.0 c.in_err-source.ensures.err c.from_residual.ensures.1

pub returns-in_err-why_serializable-in-Any : goal.returns-in_err-why_serializable-in-Any
returns-in_err-why_serializable-in-Any g c =
    rw c.in-Any.is (reason_failed c.in-Any.real_time c.in-Any.most_branches c.args.as_graph c.args.name.now (g.S.System.bytes c.args.system.now) _ _ _ c.from_residual-in_err-why_serializable-in-Any.result c.in_err-why_serializable-in-Any.field-0.0 c.in_ok-source.ensures.ok c.in_err-why_serializable-in-Any.ensures.fault c.from_residual-in_err-why_serializable-in-Any.ensures.1)

pub returns-in_ok-why_serializable-in-Any : goal.returns-in_ok-why_serializable-in-Any
returns-in_ok-why_serializable-in-Any g c =
    rw c.in-Any.is (reason_done c.in-Any.real_time c.in-Any.most_branches c.args.as_graph c.args.name.now (g.S.System.bytes c.args.system.now) _ _ _ c.in_ok-why_serializable-in-Any.field-0 c.in_ok-source.ensures.ok c.in_ok-why_serializable-in-Any.ensures.answers)
