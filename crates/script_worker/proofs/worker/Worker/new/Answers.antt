use Rattle.script_worker.proofs.WorkerSteps.{new_keeps}
use Rattle.script_worker.proofs.worker.Worker.new.Goals as goal

pub returns-clause-keeps : goal.returns-clause-keeps
returns-clause-keeps c = λ tries. rw c.start.ensures (new_keeps c.args.scripts.now tries c.args.number c.args.limits c.requires)
