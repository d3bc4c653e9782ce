use Rattle.std.proofs.Common.{refl}
use Rattle.thread_runs.proofs.Adding.{adds_same}
use Rattle.thread_runs.proofs.run_script.Heard.hear.Goals as goal

pub returns-then-not-has_room-clause-adds : goal.returns-then-not-has_room-clause-adds
returns-then-not-has_room-clause-adds g c = adds_same _ _ _ _ _ refl
