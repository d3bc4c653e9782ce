use Rattle.map_ops.proofs.Laws.{shows_before}
use Rattle.map_ops.proofs.undo_job.MapJobUndoJob.run.Goals as goal

pub returns-clause-before : goal.returns-clause-before
returns-clause-before c = shows_before c.args.world c.take_back.new.self c.args.self c.take_back.ensures.back
