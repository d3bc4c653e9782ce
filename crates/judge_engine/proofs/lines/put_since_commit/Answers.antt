use Rattle.std.proofs.lemmas.Result.{on_ok_weaker}
use Rattle.judge_engine.proofs.Listed.{joined}
use Rattle.judge_engine.proofs.lines.put_since_commit.Goals as goal

pub returns : goal.returns
returns c = on_ok_weaker c.put_entries_on.result (joined _ _ _ _ _ c.in_ok-put_since.ensures) (rw c.first_since.ensures at c.put_entries_on.ensures)
