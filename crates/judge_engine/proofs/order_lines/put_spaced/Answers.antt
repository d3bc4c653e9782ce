use Rattle.std.specs.Prelude.{string_bytes}
use Rattle.judge_engine.specs.OrderLines.{after_space}
use Rattle.judge_engine.proofs.OrderTexts.{grown_txns}
use Rattle.judge_engine.proofs.order_lines.put_spaced.Goals as goal

pub loop-txn-preserved : goal.loop-txn-preserved
loop-txn-preserved c =
    grown_txns after_space (string_bytes c.write.new.self) (string_bytes c.loop-txn.text) (string_bytes c.args.text.now) c.args.txns.now c.loop-txn.txn-index _ c.in_ok-write.ensures.bytes c.loop-txn.invariant c.loop-txn-test.true
