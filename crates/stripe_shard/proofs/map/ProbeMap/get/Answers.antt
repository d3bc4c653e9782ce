use Rattle.std.proofs.Common.{refl, sym, ap, ◌∙◌}
use Rattle.txn_words.specs.Map.{get}
use Rattle.stripe_shard.specs.MapAt.{MapAt}
use Rattle.stripe_shard.proofs.Tables.{get_nowhere, get_read}
use Rattle.stripe_shard.proofs.map.ProbeMap.get.Goals as goal

pub returns-in_default : goal.returns-in_default
returns-in_default c = let m = c.self.inside in sym (get_nowhere m.slots.items c.args.key (c.in_default.ensures.none refl)) ∙ ap (λ (p : MapAt). get p.content c.args.key) c.self.view_is

pub returns : goal.returns
returns c = let m = c.self.inside in c.value.ensures
    ∙ get_read m.slots.items m.room m.len m.hash c.args.key c.in-Some.place c.index.result.now c.self.invariant c.in-Some.ensures.some c.index.ensures
    ∙ ap (λ (p : MapAt). get p.content c.args.key) c.self.view_is
