use Rattle.serial_check.specs.Footprints.{value_seen}
use Rattle.serial_check.proofs.Loops.{Done}
use Rattle.serial_check.proofs.footprint.Footprint.rewrite.Given as goal

abbrev pub invariant-loop-key : goal.invariant-loop-key
invariant-loop-key l = Done value_seen l.fn.values l.self l.yielded l.values
