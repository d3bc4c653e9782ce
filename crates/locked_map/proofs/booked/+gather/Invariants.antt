use Rattle.std.specs.Prelude.{length}
use Rattle.locked_map.proofs.booked.+gather.Given as goal

abbrev pub decreases-gather : goal.decreases-gather
decreases-gather g l = length l.callers.now
