use Rattle.std.proofs.Common.{ap}
use Rattle.striped_map.specs.Steps.{Sat}
use Rattle.striped_map.proofs.RuleSteps.{lends, lent_shard, shards_read}
use Rattle.striped_map.proofs.map.StripedMap.count.Goals as goal

pub slot_mut-requires : goal.slot_mut-requires
slot_mut-requires c = (c.bring.ensures.seat, (_, lends _ _ _ (ap (λ (m : Sat). m.1) c.bring.ensures.brought)))

pub returns-clause-shards : goal.returns-clause-shards
returns-clause-shards c = let front = ap (λ (m : Sat). m.1) c.bring.ensures.brought in
    shards_read _ _ _ _ front (lent_shard _ _ _ _ front c.slot_mut.ensures.value)
