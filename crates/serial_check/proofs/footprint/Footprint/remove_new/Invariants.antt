use Rattle.serial_check.specs.Kept.{cleared}
use Rattle.serial_check.proofs.Loops.{Done}
use Rattle.serial_check.proofs.footprint.Footprint.remove_new.Given as goal

abbrev pub invariant-loop-key : goal.invariant-loop-key
invariant-loop-key l = Done cleared l.fn.values l.self l.yielded l.values
