use Rattle.thread_runs.proofs.Adding.{grown_by}
use Rattle.thread_runs.proofs.growth.Growth.grow.Goals as goal

pub returns-clause-grown : goal.returns-clause-grown
returns-clause-grown g c =
    rw c.is_out.ensures
    (grown_by _ c.args.me.now c.args.end c.in-Some.key c.run-helped.result c.run-helped.new.me c.in-Some.ensures c.run-helped.ensures)
