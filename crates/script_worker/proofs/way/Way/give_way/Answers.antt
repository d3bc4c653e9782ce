use Rattle.std.proofs.Common.{◌≡◌, ◌∙◌}
use Rattle.std.proofs.Math.Nat.{add-mod_right}
use Rattle.script_worker.proofs.way.Way.give_way.Goals as goal

pub returns-then-self-work-2-clause-mine : goal.returns-then-self-work-2-clause-mine
returns-then-self-work-2-clause-mine c = add-mod_right _ _
