use Rattle.judge_engine.proofs.Taking.{settled}
use Rattle.judge_engine.proofs.watcher.Watcher.verdict_so_far.Goals as goal

pub returns-in-Illegal-default-clause-settled : goal.returns-in-Illegal-default-clause-settled
returns-in-Illegal-default-clause-settled c = λ basis bytes more t.
    settled basis bytes more c.args.self.now c.verdict-verdict.result c.in-Illegal-default.entry-0 c.in-Illegal-default.rule-0 c.in-Illegal-default.is-0 t (c.verdict-verdict.ensures basis t.entries t.fed)
