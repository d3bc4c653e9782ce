use Rattle.std.proofs.Common.{ap, ◌∙◌}
use Rattle.txn_words.specs.Map.{count_of}
use Rattle.stripe_shard.specs.MapAt.{MapAt}
use Rattle.stripe_shard.proofs.Tables.{count_content}
use Rattle.stripe_shard.proofs.map.ProbeMap.len.Goals as goal

pub returns : goal.returns
returns c = let m = c.self.inside in count_content m.slots.items m.room m.len m.hash c.self.invariant ∙ ap (λ (p : MapAt). count_of p.content) c.self.view_is
