use Rattle.std.proofs.Common.{arith}
use Rattle.striped_map.proofs.RuleSteps.{splits}
use Rattle.striped_map.proofs.map.StripedMap.seat.Goals as goal

pub split_seat-seat-requires : goal.split_seat-seat-requires
split_seat-seat-requires c = let next = c.requires.next in let number = c.requires.number in
    (c.requires.table, (let s = c.args.self.now.sized in omega arith), splits _ _ c.requires.acts (omega arith))
