use Rattle.std.proofs.Common.{◌≡◌, ◌++◌, take}
use Rattle.std.specs.Prelude.{string_bytes}
use Rattle.judge_engine.specs.OrderLines.{after_space, each_txn}
use Rattle.judge_engine.proofs.order_lines.put_spaced.Given as goal

abbrev pub invariant-loop-txn : goal.invariant-loop-txn
invariant-loop-txn l = string_bytes l.text ≡ string_bytes l.fn.text ++ each_txn after_space (take l.txn-index l.fn.txns)
