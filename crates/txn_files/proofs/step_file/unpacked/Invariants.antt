use Rattle.std.proofs.Common.{◌≡◌, take}
use Rattle.txn_files.proofs.step_file.unpacked.Given as goal

abbrev pub invariant-loop-step : goal.invariant-loop-step
invariant-loop-step l = l.steps.items ≡ take l.step-index l.packed
