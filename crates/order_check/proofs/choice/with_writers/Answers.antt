use Rattle.std.proofs.Common.{◌<◌, ◌≤◌, length, arith, get_or}
use Rattle.order_check.specs.Joined.{SourceIs}
use Rattle.order_check.proofs.Noting.{no_access}
use Rattle.order_check.proofs.Choosing.{all_sourced, same_more, sources_more}
use Rattle.order_check.proofs.choice.with_writers.Goals as goal

pub loop-access-preserved : goal.loop-access-preserved
loop-access-preserved c =
    let all = c.args.accesses.now in
    let x = get_or all c.loop-access.access-index no_access in
    let below : c.loop-access.access-index < length c.args.accesses.now = omega arith in
    let gives : SourceIs all x c.in-Some.source = c.in-Some.ensures in
    record {
      same = same_more all c.loop-access.sourced.items c.push.new.self.items c.loop-access.access-index c.with_source.result c.in-Some.source below c.loop-access.invariant.same c.with_source.ensures c.in_ok-push.ensures.items;
      sources = sources_more all c.loop-access.sourced.items c.push.new.self.items x c.with_source.result c.in-Some.source c.loop-access.invariant.sources c.with_source.ensures gives c.in_ok-push.ensures.items;
    }

pub returns : goal.returns
returns c =
    let end : length c.args.accesses.now ≤ c.loop-access.access-index = omega arith in
    all_sourced c.args.accesses.now c.loop-access.sourced.items c.loop-access.access-index end c.loop-access.invariant.same c.loop-access.invariant.sources
