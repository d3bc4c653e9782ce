use Rattle.std.proofs.lemmas.Result.{err_from_is_err_and}
use Rattle.judge_engine.proofs.Ends.{leaves_watch}
use Rattle.judge_engine.proofs.engine.watch.Goals as goal

pub returns-in_err-verdict-clause-fault : goal.returns-in_err-verdict-clause-fault
returns-in_err-verdict-clause-fault g c =
    let p = err_from_is_err_and c.from_residual.result c.from_residual.ensures.1 in
    rw (p.1, p.2) (leaves_watch _ _ _ _ c.in_err-verdict.field-0.0 c.in_err-verdict.ensures.err)
