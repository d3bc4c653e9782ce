use Rattle.std.proofs.Common.{◌-◌, arith}
use Rattle.stripe_shard.proofs.Lookups.{pairs_more}
use Rattle.stripe_shard.proofs.map.put_all.Goals as goal

pub insert-requires : goal.insert-requires
insert-requires c =
    let room = c.loop-left.invariant.room in
    let within = c.loop-left.invariant.within in
    let more = pairs_more c.args.slots.now (c.loop-left.left - 1) c.loop-left.left _ c.in-Full.key c.in-Full.value (omega arith) within c.in-Full.is in
    omega arith
