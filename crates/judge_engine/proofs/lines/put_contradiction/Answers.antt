use Rattle.std.proofs.lemmas.Result.{on_ok_weaker}
use Rattle.judge_engine.proofs.Listed.{joined}
use Rattle.judge_engine.proofs.lines.put_contradiction.Goals as goal

pub returns : goal.returns
returns c = rw c.in-Some.is (on_ok_weaker c.put_entry.result (joined _ _ _ _ _ c.in_ok-writeln.ensures.bytes) c.put_entry.ensures)
