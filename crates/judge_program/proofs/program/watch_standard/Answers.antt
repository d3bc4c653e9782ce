use Rattle.judge_program.proofs.CommandEnds.{watch_done, watch_failed, watch_not_opened}
use Rattle.judge_program.proofs.program.watch_standard.Goals as goal

pub returns-in_err-source : goal.returns-in_err-source
returns-in_err-source g c =
    watch_not_opened c.args.basis (g.S.System.bytes c.args.system.now) _ c.from_residual.result c.in_err-source.field-0.0 c.in_err-source.ensures.err c.from_residual.ensures.1

pub returns-in_err-watch : goal.returns-in_err-watch
returns-in_err-watch g c =
    watch_failed c.args.basis (g.S.System.bytes c.args.system.now) _ _ _ c.from_residual-in_err-watch.result c.in_err-watch.field-0.0 c.in_ok-source.ensures.ok c.in_err-watch.ensures.fault c.from_residual-in_err-watch.ensures.1

pub returns : goal.returns
returns g c = rw c.from.ensures (watch_done c.args.basis (g.S.System.bytes c.args.system.now) _ _ _ c.in_ok-watch.field-0 c.in_ok-source.ensures.ok c.in_ok-watch.ensures.judges)
