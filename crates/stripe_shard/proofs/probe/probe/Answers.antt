use Rattle.stripe_shard.proofs.Passes.{IsCut, stops_back, stops_nowhere, stops_somewhere}
use Rattle.stripe_shard.proofs.probe.probe.Goals as goal

pub returns-in-Some-clause-some : goal.returns-in-Some-clause-some
returns-in-Some-clause-some c =
    let cut : IsCut c.args.slots.now c.args.start c.split_at.result.0.now c.split_at.result.1.now = record { within = c.requires; front_is = c.split_at.ensures.front; back_is = c.split_at.ensures.back } in
    stops_back _ _ _ c.args.start c.args.key c.in-Some.i cut c.in-Some.ensures.some.0 c.in-Some.ensures.some.1 c.in-Some.ensures.passed

pub returns-in-None-clause-some : goal.returns-in-None-clause-some
returns-in-None-clause-some c =
    let cut : IsCut c.args.slots.now c.args.start c.split_at.result.0.now c.split_at.result.1.now = record { within = c.requires; front_is = c.split_at.ensures.front; back_is = c.split_at.ensures.back } in
    stops_somewhere _ _ _ c.args.start c.args.key cut c.in-None.ensures.passed c.first_stop-in-None.result c.first_stop-in-None.ensures.some c.first_stop-in-None.ensures.passed

pub returns-in-None-clause-none : goal.returns-in-None-clause-none
returns-in-None-clause-none c =
    let cut : IsCut c.args.slots.now c.args.start c.split_at.result.0.now c.split_at.result.1.now = record { within = c.requires; front_is = c.split_at.ensures.front; back_is = c.split_at.ensures.back } in
    stops_nowhere _ _ _ c.args.start c.args.key cut c.in-None.ensures.passed c.first_stop-in-None.result c.first_stop-in-None.ensures.passed
