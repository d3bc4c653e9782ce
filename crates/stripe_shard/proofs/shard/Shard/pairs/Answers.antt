use Rattle.std.proofs.Common.{ap, ◌∙◌}
use Rattle.stripe_shard.specs.ShardAt.{ShardAt}
use Rattle.stripe_shard.proofs.Rows.{rows_sorted}
use Rattle.stripe_shard.proofs.shard.Shard.pairs.Goals as goal

pub returns : goal.returns
returns c =
    rows_sorted c.self.inside.map.content c.in_ok-pairs.pairs.items c.sort.new.self.items c.in_ok-pairs.ensures c.sort.ensures.permutation c.in_ok-sort.ensures.sorted
    ∙ ap (λ (p : ShardAt). p.content.rows) c.self.view_is
