use Rattle.std.proofs.Common.{◌≡◌, None, replicate}
use Rattle.bucket_table.proofs.segments.missing.Given as goal

abbrev pub invariant-loop : goal.invariant-loop
invariant-loop l = l.row.items ≡ replicate l.counter None
