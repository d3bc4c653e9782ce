use Rattle.std.proofs.Common.{arith}
use Rattle.std.proofs.lemmas.List.Elements.{All-nil, All-push}
use Rattle.serial_check.specs.Kept.{IsFresh}
use Rattle.serial_check.proofs.Starts.{have-none}
use Rattle.serial_check.proofs.footprints.Footprints.new.Goals as goal

pub loop-init : goal.loop-init
loop-init c = record { count = c.in_ok-table.ensures.len; fresh = rw c.in_ok-table.ensures.items (All-nil IsFresh) }

pub loop-preserved : goal.loop-preserved
loop-preserved c = record {
  count = omega (arith, c.loop.invariant.count, c.in_ok-push.ensures.len);
  fresh = rw c.in_ok-push.ensures.items (All-push IsFresh c.loop.table.items c.new.result c.loop.invariant.fresh c.new.ensures);
}

pub invariant_of-result : goal.invariant_of-result
invariant_of-result c = record { all = omega (arith, c.loop.invariant.count, c.loop-test.false) }

pub returns : goal.returns
returns c = have-none _ c.loop.invariant.fresh
