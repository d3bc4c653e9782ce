use Rattle.std.proofs.Common.{◌≡◌, ◌+◌, length}
use Rattle.undo_log.proofs.Levels.{IsOnTheWay}
use Rattle.undo_log.proofs.side_value.SideValue.back.Given as goal

abbrev pub invariant-loop-job : goal.invariant-loop-job
invariant-loop-job g l = record {
  way : IsOnTheWay (λ j. g.S.Side.before j.job) (λ j. g.S.Side.after j.job) (g.S.Side.words_of l.initial.self-inside.value) (g.S.Side.words_of l.self-inside.value) l.initial.self-inside.log l.self-inside.log l.level;
  room : l.self-inside.log.room + length l.self-inside.log.jobs ≡ l.initial.self-inside.log.room + length l.initial.self-inside.log.jobs;
  save_room : l.self-inside.log.save_room ≡ l.initial.self-inside.log.save_room;
}

abbrev pub decreases-loop-job : goal.decreases-loop-job
decreases-loop-job g l = length l.self-inside.log.jobs
