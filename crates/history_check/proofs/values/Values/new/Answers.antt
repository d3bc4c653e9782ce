use Rattle.std.proofs.Common.{arith}
use Rattle.std.proofs.lemmas.List.Elements.{All-nil, All-push}
use Rattle.std.specs.BTreeMap.{IsEmpty}
use Rattle.history_check.proofs.OneKey.{bare_has}
use Rattle.history_check.proofs.values.Values.new.Goals as goal

pub loop-init : goal.loop-init
loop-init c = record { count = c.in_ok-maps.ensures.len; bare = rw c.in_ok-maps.ensures.items (All-nil IsEmpty) }

pub loop-preserved : goal.loop-preserved
loop-preserved c = record {
  count = omega (arith, c.loop.invariant.count, c.in_ok-push.ensures.len);
  bare = rw c.in_ok-push.ensures.items (All-push IsEmpty c.loop.maps.items c.new.result c.loop.invariant.bare c.new.ensures.empty);
}

pub invariant_of-result : goal.invariant_of-result
invariant_of-result c = record { all = omega (arith, c.loop.invariant.count, c.loop-test.false) }

pub returns : goal.returns
returns c r = bare_has c.loop.maps.items c.loop.invariant.bare r r
