use Rattle.std.specs.Prelude.{string_bytes}
use Rattle.judge_engine.specs.OrderLines.{txn_line}
use Rattle.judge_engine.proofs.OrderTexts.{grown_txns}
use Rattle.judge_engine.proofs.order_lines.put_order.Goals as goal

pub loop-txn-preserved : goal.loop-txn-preserved
loop-txn-preserved c =
    grown_txns txn_line (string_bytes c.writeln.new.self) (string_bytes c.loop-txn.text) (string_bytes c.args.text.now) c.args.order.now c.loop-txn.txn-index _ c.in_ok-writeln.ensures.bytes c.loop-txn.invariant c.loop-txn-test.true
