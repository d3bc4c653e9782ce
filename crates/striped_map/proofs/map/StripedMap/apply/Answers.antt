use Rattle.std.proofs.Common.{◌∙◌, ap}
use Rattle.std.proofs.lemmas.Result.{on_err_weaker}
use Rattle.striped_map.specs.Steps.{Sat}
use Rattle.striped_map.proofs.RuleSteps.{lends, lent_shard, others_worked, shards_read}
use Rattle.striped_map.proofs.map.StripedMap.apply.Goals as goal

pub slot_mut-requires : goal.slot_mut-requires
slot_mut-requires c = (c.bring.ensures.seat, (_, lends _ _ _ (ap (λ (m : Sat). m.1) c.bring.ensures.brought)))

pub returns-clause-others : goal.returns-clause-others
returns-clause-others c = others_worked _ _ _ _ (ap (λ (m : Sat). m.1) c.bring.ensures.brought)

pub returns-clause-unchanged : goal.returns-clause-unchanged
returns-clause-unchanged c = let front = ap (λ (m : Sat). m.1) c.bring.ensures.brought in
    on_err_weaker c.apply.result (λ same. shards_read _ _ _ _ front (same ∙ lent_shard _ _ _ _ front c.slot_mut.ensures.value)) c.apply.ensures.unchanged
