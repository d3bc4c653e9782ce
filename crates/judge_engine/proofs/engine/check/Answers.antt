use Rattle.std.proofs.lemmas.Result.{err_from_is_err_and}
use Rattle.judge_engine.proofs.Ends.{leaves_check}
use Rattle.judge_engine.proofs.engine.check.Goals as goal

pub returns-in_err-verdict-clause-fault : goal.returns-in_err-verdict-clause-fault
returns-in_err-verdict-clause-fault g c =
    let p = err_from_is_err_and c.from_residual-in_err-verdict.result c.from_residual-in_err-verdict.ensures.1 in
    rw (p.1, p.2) (leaves_check _ _ _ c.in_ok-bytes.bytes.items c.in_err-verdict.field-0.0 c.in_ok-bytes.ensures c.in_err-verdict.ensures.err)
