use Rattle.std.proofs.Common.{inr, subst}
use Rattle.striped_map.specs.declared.map.StripedMap.{StripedMap}
use Rattle.striped_map.specs.Seats.{IsOverIn}
use Rattle.striped_map.proofs.host.Host.collect_one.Goals as goal

pub returns-in-Some-clause-merges : goal.returns-in-Some-clause-merges
returns-in-Some-clause-merges c = let seat = c.in-Some.seat in
    inr (seat, subst (λ (m : StripedMap). IsOverIn m seat) c.deref.ensures c.in-Some.ensures.over, c.in-Some.ensures.number, c.merge.ensures.merged, c.merge.ensures.made)
