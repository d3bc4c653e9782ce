use Rattle.serial_check.proofs.Loops.{Done, filled}
use Rattle.serial_check.proofs.footprint.Footprint.insert_new.Given as goal

abbrev pub invariant-loop-key : goal.invariant-loop-key
invariant-loop-key l = Done filled l.fn.values l.self l.yielded l.values
