use Rattle.std.proofs.Common.{refl, arith}
use Rattle.std.proofs.lemmas.List.Elements.{All-nil, All-push}
use Rattle.history_check.proofs.Starts.{IsFresh, entered-none}
use Rattle.history_check.proofs.callers.Callers.new.Goals as goal

pub loop-init : goal.loop-init
loop-init c = record { count = c.in_ok-table.ensures.len; fresh = rw c.in_ok-table.ensures.items (All-nil IsFresh) }

pub loop-preserved : goal.loop-preserved
loop-preserved c = record {
  count = omega (arith, c.loop.invariant.count, c.in_ok-push.ensures.len);
  fresh = rw c.in_ok-push.ensures.items (All-push IsFresh c.loop.table.items c.new.result c.loop.invariant.fresh (c.new.ensures.stance, c.new.ensures.log, c.new.ensures.begun));
}

pub invariant_of-result : goal.invariant_of-result
invariant_of-result c = record { all = omega (arith, c.loop.invariant.count, c.loop-test.false) }

pub returns : goal.returns
returns c = entered-none _ c.loop.invariant.fresh refl refl
