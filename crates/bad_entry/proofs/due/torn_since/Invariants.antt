use Rattle.std.proofs.Common.{◌≤◌, length, take}
use Rattle.serial_check.specs.Fed.{IsFed}
use Rattle.serial_check.specs.Serializable.{IsSerializableByCommits}
use Rattle.bad_entry.proofs.Torn.{IsTornBefore}
use Rattle.bad_entry.proofs.due.torn_since.Given as goal

abbrev pub invariant-loop-index : goal.invariant-loop-index
invariant-loop-index l = record {
  few : l.index ≤ length l.entries;
  fed : IsFed (take l.index l.entries) l.checker;
  since : IsSerializableByCommits l.entries → IsTornBefore l.entries l.caller l.index l.since;
}
