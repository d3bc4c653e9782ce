use Rattle.std.proofs.Common.{ap, ◌∙◌}
use Rattle.script_worker.proofs.Vocabulary.{Standing, step_by}
use Rattle.script_worker.proofs.{WorkerSteps.told_keeps, WorkerSteps.told_on, Ready.told_ready}
use Rattle.script_worker.proofs.worker.Worker.told.Goals as goal

pub invariant_of-self : goal.invariant_of-self
invariant_of-self c =
    rw c.tell.ensures.task (told_ready c.args.scripts.now c.args.tries c.self.inside.number c.self.inside.limits c.self.inside.task
    c.args.answer)

pub returns-clause-ready : goal.returns-clause-ready
returns-clause-ready c = invariant_of-self c

pub returns-clause-finish : goal.returns-clause-finish
returns-clause-finish c = rw (← c.self.view_is) c.tell.ensures.finish

pub returns-clause-second : goal.returns-clause-second
returns-clause-second c = λ step is.
    let worker : Standing = record { number = c.self.inside.number; limits = c.self.inside.limits; task = c.self.inside.task } in
    let here = rw (← c.self.view_is) at is in
    rw c.tell.ensures.task (ap step_by (told_on c.args.scripts.now c.args.tries worker c.args.answer step here) ∙ here)

pub returns-clause-keeps : goal.returns-clause-keeps
returns-clause-keeps c = λ seen step is keeps.
    rw c.tell.ensures.task
    (told_keeps c.args.scripts.now c.args.tries _ c.args.answer seen step (rw (← c.self.view_is) at is) (rw (← c.self.view_is) at keeps))
