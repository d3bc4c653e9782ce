use Rattle.bucket_table.proofs.NearestLemmas.{IsPassing}
use Rattle.bucket_table.proofs.buckets.Buckets.nearest.Given as goal

abbrev pub invariant-loop-dummy : goal.invariant-loop-dummy
invariant-loop-dummy l = IsPassing l.self l.fn.bucket l.at

abbrev pub decreases-loop-dummy : goal.decreases-loop-dummy
decreases-loop-dummy l = l.at
