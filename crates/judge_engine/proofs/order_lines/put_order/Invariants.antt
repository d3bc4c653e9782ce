use Rattle.std.proofs.Common.{◌≡◌, ◌++◌, take}
use Rattle.std.specs.Prelude.{string_bytes}
use Rattle.judge_engine.specs.OrderLines.{order_lines}
use Rattle.judge_engine.proofs.order_lines.put_order.Given as goal

abbrev pub invariant-loop-txn : goal.invariant-loop-txn
invariant-loop-txn l = string_bytes l.text ≡ string_bytes l.fn.text ++ order_lines (take l.txn-index l.fn.order)
