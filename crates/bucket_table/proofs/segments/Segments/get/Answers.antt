use Rattle.std.proofs.Common.{sym, ap, ◌∙◌, ◌%◌, ℕ, List, Option, None, slice_index_or}
use Rattle.bucket_table.specs.Segments.{held_by}
use Rattle.bucket_table.proofs.SegmentLemmas.{entry_at, entry_past, segment_read}
use Rattle.bucket_table.proofs.segments.Segments.get.Goals as goal

pub returns-then-bucket-self : goal.returns-then-bucket-self
returns-then-bucket-self c =
    sym (entry_past c.self.inside.limit c.self.inside.row.items c.args.bucket c.if-bucket-self.true) ∙ ap (λ (entries : List (Option ℕ)). slice_index_or entries c.args.bucket None) c.self.view_is

pub returns-in-Some : goal.returns-in-Some
returns-in-Some c =
    let read = segment_read c.self.inside.row.items c.args.bucket c.self.inside.limit c.index.result.now c.if-bucket-self.false c.self.invariant.long c.index.ensures in
    c.get.ensures ∙ ap (λ (o : Option (List (Option ℕ))). slice_index_or (held_by o) (c.args.bucket % 64) None) (sym c.in-Some.is ∙ read)
    ∙ sym (entry_at c.self.inside.limit c.self.inside.row.items c.args.bucket c.if-bucket-self.false) ∙ ap (λ (entries : List (Option ℕ)). slice_index_or entries c.args.bucket None) c.self.view_is

pub returns-in-None : goal.returns-in-None
returns-in-None c =
    let read = segment_read c.self.inside.row.items c.args.bucket c.self.inside.limit c.index.result.now c.if-bucket-self.false c.self.invariant.long c.index.ensures in
    ap (λ (o : Option (List (Option ℕ))). slice_index_or (held_by o) (c.args.bucket % 64) None) (sym c.in-None.is ∙ read)
    ∙ sym (entry_at c.self.inside.limit c.self.inside.row.items c.args.bucket c.if-bucket-self.false) ∙ ap (λ (entries : List (Option ℕ)). slice_index_or entries c.args.bucket None) c.self.view_is
