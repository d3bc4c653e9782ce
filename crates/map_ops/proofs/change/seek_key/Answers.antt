use Rattle.std.proofs.Common.{ℕ, ◌%◌, ◌∙◌, ap, sym, subst}
use Rattle.map_ops.specs.Vocabulary.{IsNearest, SortKey, sought}
use Rattle.map_ops.specs.Sound.{Belong}
use Rattle.map_ops.proofs.BelongLemmas.{belong_sought}
use Rattle.map_ops.proofs.KeepLemmas.{places}
use Rattle.map_ops.proofs.change.seek_key.Goals as goal

pub returns-clause-places : goal.returns-clause-places
returns-clause-places c =
    places c.args.list.now c.seek.new.list c.args.buckets.now c.args.key _ _ c.seek.result c.requires.sound c.seek.ensures.nodes c.seek.ensures.kept c.seek.ensures.content
    c.seek.ensures.found c.seek.ensures.placed c.seek.ensures.fits (c.seek.ensures.at ∙ c.regular.ensures.value)

pub returns-clause-near : goal.returns-clause-near
returns-clause-near c = record {
  start = c.nearest-from.result;
  nearest = subst (λ (bucket : ℕ). IsNearest c.args.buckets.now bucket c.nearest-from.result) (c.bucket_of-bucket.ensures.value ∙ ap (λ (size : ℕ). c.args.key % size) c.size.ensures.size) c.nearest-from.ensures.nearest;
  nodes = c.seek.ensures.nodes ∙ ap (λ (at : SortKey). sought c.args.list.now.nodes c.nearest-from.result at) c.regular.ensures.value;
  changes = c.seek.ensures.changes;
}

pub returns-clause-belong : goal.returns-clause-belong
returns-clause-belong c = subst Belong (sym c.seek.ensures.nodes) (belong_sought _ _ _ c.requires.belong)

pub returns-clause-rises : goal.returns-clause-rises
returns-clause-rises c = c.seek.ensures.follows.changes
