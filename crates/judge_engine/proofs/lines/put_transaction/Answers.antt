use Rattle.std.proofs.lemmas.Result.{on_ok_weaker}
use Rattle.judge_engine.proofs.Listed.{joined}
use Rattle.judge_engine.proofs.lines.put_transaction.Goals as goal

pub returns : goal.returns
returns c = rw (← c.txn_of-txn.ensures) (on_ok_weaker c.put_entries_of.result (joined _ _ _ _ _ c.in_ok-writeln.ensures.bytes) c.put_entries_of.ensures)
