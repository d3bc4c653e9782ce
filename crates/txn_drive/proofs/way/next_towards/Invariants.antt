use Rattle.std.proofs.Common.{◌≡◌, ◌-◌}
use Rattle.txn_drive.specs.Ways.{child_within, child_towards}
use Rattle.txn_drive.proofs.way.next_towards.Given as goal

abbrev pub invariant-loop : goal.invariant-loop
invariant-loop l = child_within (32 - l.counter) l.last l.bucket ≡ child_towards l.last l.target
