use Rattle.std.proofs.Common.{◌≡◌, refl}
use Rattle.script_worker.proofs.Counting.{aborts_found, aborts_none}
use Rattle.script_worker.proofs.way.Way.leave.Goals as goal

pub returns-then-reached : goal.returns-then-reached
returns-then-reached c =
    let found = c.first_left-number.ensures in
    aborts_found _ _ _ _ _ _ _ c.first_left-number.result.0 c.requires.may found.from found.mine c.if-work-number.false (λ script there. found.reaches script c.if-reached.true there) refl refl refl refl

pub returns-else-reached : goal.returns-else-reached
returns-else-reached c =
    let found = c.first_left-number.ensures in
    aborts_none _ _ _ _ _ _ c.first_left-number.result.0 c.requires.may found.from found.mine refl refl refl
