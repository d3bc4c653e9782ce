use Rattle.std.proofs.Common.{◌∙◌, ap, arith}
use Rattle.striped_map.specs.Steps.{Sat}
use Rattle.striped_map.proofs.RuleSteps.{none_out}
use Rattle.striped_map.proofs.MergedSeats.{retires, tallies}
use Rattle.striped_map.proofs.map.StripedMap.take_in.Goals as goal

pub join_seat-requires : goal.join_seat-requires
join_seat-requires c = let me = c.args.seat.now in let it = c.args.other in let s = c.args.self.now.sized in (
  c.requires.seat,
  c.requires.other,
  none_out it.seat.me it.slotted c.requires.idle,
  omega arith,
  retires _ _ _ _ me.acting c.requires.first it.acting c.requires.idle c.requires.plain,
)

pub load-requires : goal.load-requires
load-requires c = let s = c.args.self.now.sized in let t = c.quiet.ensures in
    (c.join_seat.ensures.0 ∙ c.requires.seat, omega arith, tallies _ _ _ _ (ap (λ (m : Sat). m.0.acts) c.join_seat.ensures.2 ∙ c.args.seat.now.acting))
