use Rattle.std.proofs.lemmas.Result.{IfOk-weaker}
use Rattle.judge_engine.proofs.Ends.{err_more}
use Rattle.judge_engine.proofs.reading.watch_lines.Goals as goal

pub returns-clause-ok : goal.returns-clause-ok
returns-clause-ok g c = IfOk-weaker c.read_on.result _ _ (λ outcome h. h c.args.basis c.in_ok-watcher.ensures) c.read_on.ensures.ok

pub returns-clause-err : goal.returns-clause-err
returns-clause-err g c = err_more c.read_on.result _ _ (λ fault h. h c.args.basis c.in_ok-watcher.ensures) c.read_on.ensures.err
