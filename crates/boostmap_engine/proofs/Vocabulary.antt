-- The names of lower crates and of specs that the proofs cite, in one place. Declares nothing.
pub use Rattle.boost_core.specs.Machine.{Happens, start, State}
pub use Rattle.boost_core.proofs.Moves.{move_over}
pub use Rattle.boostmap_engine.specs.Crews.{MovesOn, IsCrew, IsMember}
pub use Rattle.boostmap_engine.specs.Turns.{AreFinished, beginning, first_crew, IsAtPlace, live, live_from, TakeDrawn}
pub use Rattle.script_worker.proofs.WorkerSteps.{keeps_told, sized_keeps, told_keeps, told_on}
pub use Rattle.script_worker.proofs.{Accounts.true_plays, Taking.next_at, Taking.next_maps, Telling.accounts_true}
pub use Rattle.script_worker.specs.declared.{attempt.Finish.Finish, task.Task.Task, worker.Worker.Worker}
