use Rattle.judge_engine.proofs.order.judge_entries.Goals as goal

pub returns : goal.returns
returns c = c.found_by.ensures c.args.real_time c.args.entries.now c.in_ok-checker.ensures
