use Rattle.std.proofs.Common.{◌≡◌, take, None}
use Rattle.std.specs.List.{fold}
use Rattle.judge_engine.specs.WhyLines.{beginner_after}
use Rattle.judge_engine.proofs.order_why.beginner_in.Given as goal

abbrev pub invariant-loop-packed : goal.invariant-loop-packed
invariant-loop-packed l = l.caller ≡ fold (beginner_after l.txn) None (take l.packed-index l.entries)
