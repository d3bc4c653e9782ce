use Rattle.std.proofs.Common.{ap, ◌∙◌}
use Rattle.bucket_table.specs.Segments.{bucket_entries}
use Rattle.bucket_table.proofs.SegmentLemmas.{entries_missing}
use Rattle.bucket_table.proofs.segments.Segments.empty.Goals as goal

pub returns : goal.returns
returns c = ap (bucket_entries c.args.limit) c.in_ok-row.ensures ∙ entries_missing c.args.limit _
