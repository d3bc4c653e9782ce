use Rattle.std.proofs.Common.{subst}
use Rattle.locked_map.specs.Vocabulary.{IsLegal, holder_by}
use Rattle.locked_map.proofs.shared_map.SharedMap.into_booked.Goals as goal

pub returns-clause-legal : goal.returns-clause-legal
returns-clause-legal g c =
    let booked = c.into_inner-booked.result in
    subst (λ words. IsLegal (holder_by words) booked.core.limits.stripes booked.core.history) booked.of_words c.trace-legal.ensures.legal
