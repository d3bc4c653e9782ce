use Rattle.std.proofs.Common.{ap}
use Rattle.striped_map.specs.Steps.{Sat}
use Rattle.striped_map.proofs.RuleSteps.{lends, others_worked}
use Rattle.striped_map.proofs.map.StripedMap.take_back.Goals as goal

pub slot_mut-requires : goal.slot_mut-requires
slot_mut-requires c = (c.bring.ensures.seat, (_, lends _ _ _ (ap (λ (m : Sat). m.1) c.bring.ensures.brought)))

pub returns-clause-others : goal.returns-clause-others
returns-clause-others c = others_worked _ _ _ _ (ap (λ (m : Sat). m.1) c.bring.ensures.brought)
