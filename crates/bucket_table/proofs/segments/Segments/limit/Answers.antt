use Rattle.std.proofs.Common.{sym, ap, ◌∙◌, length}
use Rattle.bucket_table.proofs.SegmentLemmas.{entries_length}
use Rattle.bucket_table.proofs.segments.Segments.limit.Goals as goal

pub returns : goal.returns
returns c = sym (entries_length c.self.inside.limit c.self.inside.row.items) ∙ ap length c.self.view_is
