use Rattle.std.proofs.Common.{◌≡◌, replicate, arith, rules, ap, ◌∙◌}
use Rattle.std.proofs.lemmas.Grind.{common_steps}
use Rattle.stripe_shard.specs.declared.slot.Slot.TheVariants.{Empty}
use Rattle.stripe_shard.specs.MapAt.{map_of}
use Rattle.stripe_shard.specs.Slots.{pairs_of}
use Rattle.stripe_shard.proofs.Lookups.{pairs_of-replicate}
use Rattle.stripe_shard.proofs.map.ProbeMap.with_capacity_and_seed.Goals as goal

pub returns-clause-empty : goal.returns-clause-empty
returns-clause-empty c =
    let same : c.in_ok-vec.field-0.items ≡ replicate c.in-Some.count Empty = first_of (search rules, grind (arith, common_steps)) in
    ap (λ l. map_of (pairs_of l)) same ∙ ap map_of (pairs_of-replicate c.in-Some.count)
