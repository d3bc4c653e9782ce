use Rattle.std.proofs.Common.{◌≡◌, ◌+◌, length}
use Rattle.undo_log.proofs.side_value.SideValue.settle.Given as goal

abbrev pub invariant-loop-job : goal.invariant-loop-job
invariant-loop-job g l = record {
  value : l.self-inside.value ≡ l.initial.self-inside.value;
  kept : l.self-inside.log.kept ≡ l.initial.self-inside.log.kept;
  room : l.self-inside.log.room + length l.self-inside.log.jobs ≡ l.initial.self-inside.log.room + length l.initial.self-inside.log.jobs;
  save_room : l.self-inside.log.save_room ≡ l.initial.self-inside.log.save_room;
}

abbrev pub decreases-loop-job : goal.decreases-loop-job
decreases-loop-job g l = length l.self-inside.log.jobs
