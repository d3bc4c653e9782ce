use Rattle.std.proofs.Common.{◌≡◌, refl, ◌∙◌, arith}
use Rattle.script_worker.proofs.Counting.{commits_found, commits_lost}
use Rattle.script_worker.proofs.way.Way.commit.Goals as goal

pub returns-then-number-work : goal.returns-then-number-work
returns-then-number-work c =
    commits_found _ _ _ _ _ _ _ _ c.first_played-number.result c.requires.may c.first_played-number.ensures c.if-number-work.true c.go_on.ensures.part c.go_on.ensures.next c.go_on.ensures.turn refl

pub returns-else-number-work : goal.returns-else-number-work
returns-else-number-work c =
    commits_lost _ _ _ _ _ _ _ c.first_played-number.result c.requires.may c.first_played-number.ensures c.if-number-work.false c.go_on-else-number-work.ensures.part c.go_on-else-number-work.ensures.next
    c.go_on-else-number-work.ensures.turn
