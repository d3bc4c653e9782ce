use Rattle.std.proofs.lemmas.Result.{on_ok_weaker}
use Rattle.judge_engine.proofs.Listed.{joined}
use Rattle.judge_engine.proofs.order_lines.put_serializable.Goals as goal

pub returns : goal.returns
returns c = on_ok_weaker c.put_order_if.result (joined _ _ _ _ _ c.in_ok-writeln.ensures.bytes) c.put_order_if.ensures
