use Rattle.judge_engine.proofs.order.found_by.Goals as goal

pub returns : goal.returns
returns c b h fed = record {
  verdict = c.in_ok-verdict.ensures.verdict b h fed;
  by_commits = c.in_ok-verdict.ensures.commits b h fed;
  committed = λ shape. c.committed.ensures h (c.callers.ensures b h fed shape);
  in_txn = λ shape. c.running.ensures h (c.callers-2.ensures b h fed shape);
}
