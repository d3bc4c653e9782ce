use Rattle.judge_engine.proofs.Telling.{grown_lines}
use Rattle.judge_engine.proofs.outcomes.put_lines.Goals as goal

pub loop-number-preserved : goal.loop-number-preserved
loop-number-preserved c = grown_lines _ _ _ c.args.workers c.args.outcomes.now c.loop-number.number _ c.in_ok-put_line.ensures c.loop-number.invariant c.loop-number-test.true
