use Rattle.std.proofs.Common.{take}
use Rattle.boostmap_c.specs.Judges.{FedAll}
use Rattle.boostmap_c.proofs.judge.feed_front.Given as goal

abbrev pub invariant-feeds : goal.invariant-feeds
invariant-feeds l = FedAll (take l.i l.entries) l.fn.referee l.referee
