use Rattle.std.proofs.Common.{ℕ, List, Option, Some, None, refl, ◌∙◌, ap, replicate, slice_index_or, slice_set}
use Rattle.bucket_table.proofs.SegmentLemmas.{segment_here, segment_elsewhere}
use Rattle.bucket_table.proofs.segments.Segment.new.Goals as goal

pub returns : goal.returns
returns c =
    let P : List (Option ℕ) → ℕ → Option ℕ = λ items at. slice_index_or (slice_set items c.args.place (Some c.args.dummy)) at None in
    let filled = c.in_ok-entries.ensures ∙ ap (replicate 64) c.none.ensures in
    rw c.of.ensures (record {
      segment = slice_set c.in_ok-entries.entries.items c.args.place (Some c.args.dummy);
      there = refl;
      here = ap (λ items. P items c.args.place) filled ∙ segment_here c.args.place c.args.dummy c.requires;
      elsewhere = λ other apart. ap (λ items. P items other) filled ∙ segment_elsewhere c.args.place c.args.dummy other apart;
    })
