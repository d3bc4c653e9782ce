use Rattle.std.proofs.Common.{◌≡◌, ℕ, ◌/◌, subst, arith, length, List, Option, Some, slice_set}
use Rattle.std.specs.Prelude.{IfOk, OnErr}
use Rattle.bucket_table.specs.Segments.{LacksSegment, bucket_entries}
use Rattle.bucket_table.proofs.SegmentLemmas.{within_limit, segment_within, segment_read, row_put, entries_put, lacks_put}
use Rattle.bucket_table.proofs.segments.Segments.set.Goals as goal

pub index_mut-segment-requires : goal.index_mut-segment-requires
index_mut-segment-requires c =
    let within = within_limit _ _ _ _ c.self.view_is c.requires in
    let there = segment_within c.self.inside.limit c.args.bucket (length c.self.inside.row.items) within c.self.invariant.long in
    omega (arith, c.self.inside.row.ok.0, there)

pub invariant_of-self : goal.invariant_of-self
invariant_of-self c =
    let within = within_limit _ _ _ _ c.self.view_is c.requires in
    let was = segment_read c.self.inside.row.items c.args.bucket c.self.inside.limit _ within c.self.invariant.long c.index_mut-segment.ensures.value in
    row_put c.self.inside.limit c.self.inside.row.items c.args.bucket c.args.dummy _ _ c.self.invariant within was c.put.result c.put.ensures.ok c.put.ensures.unchanged

pub returns-clause-ok : goal.returns-clause-ok
returns-clause-ok c =
    let within = within_limit _ _ _ _ c.self.view_is c.requires in
    let was = segment_read c.self.inside.row.items c.args.bucket c.self.inside.limit _ within c.self.invariant.long c.index_mut-segment.ensures.value in
    let P : List (Option ℕ) → Type 0 = λ old. IfOk c.put.result (λ done. bucket_entries c.self.inside.limit (slice_set c.self.inside.row.items (c.args.bucket / 64) c.put.new.segment) ≡ slice_set old c.args.bucket (Some c.args.dummy)) in
    subst P c.self.view_is (entries_put c.self.inside.limit c.self.inside.row.items c.args.bucket c.args.dummy _ _ c.self.invariant within was c.put.result c.put.ensures.ok)

pub returns-clause-lacks : goal.returns-clause-lacks
returns-clause-lacks c =
    let within = within_limit _ _ _ _ c.self.view_is c.requires in
    let was = segment_read c.self.inside.row.items c.args.bucket c.self.inside.limit _ within c.self.invariant.long c.index_mut-segment.ensures.value in
    let P : List (Option ℕ) → Type 0 = λ old. OnErr c.put.result (LacksSegment old c.args.bucket) in
    subst P c.self.view_is (lacks_put c.self.inside.limit c.self.inside.row.items c.args.bucket c.args.dummy _ c.put.new.segment c.self.invariant within was c.put.result c.put.ensures.missing)
