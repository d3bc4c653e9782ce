use Rattle.judge_program.proofs.CommandEnds.{outcomes_done, outcomes_failed, scripts_not_opened, history_not_opened}
use Rattle.judge_program.proofs.program.outcomes_in.Goals as goal

pub returns-in_err-scripts : goal.returns-in_err-scripts
returns-in_err-scripts g c =
    scripts_not_opened c.args.scripts.now c.args.history.now (g.S.System.bytes c.args.system.now) _ c.from_residual.result c.in_err-scripts.field-0.0 c.in_err-scripts.ensures.err c.from_residual.ensures.1

pub returns-in_err-history : goal.returns-in_err-history
returns-in_err-history g c =
    history_not_opened c.args.scripts.now c.args.history.now (g.S.System.bytes c.args.system.now) _ c.from_residual-in_err-history.result c.in_err-history.field-0.0 c.in_err-history.ensures.err
    c.from_residual-in_err-history.ensures.1

pub returns-in_err-tell_outcomes : goal.returns-in_err-tell_outcomes
returns-in_err-tell_outcomes g c =
    outcomes_failed c.args.scripts.now c.args.history.now (g.S.System.bytes c.args.system.now) _ _ _ _ c.from_residual-in_err-tell_outcomes.result c.in_err-tell_outcomes.field-0.0 c.in_ok-scripts.ensures.ok
    c.in_ok-history.ensures.ok c.in_err-tell_outcomes.ensures.fault c.from_residual-in_err-tell_outcomes.ensures.1

pub returns : goal.returns
returns g c =
    rw c.from.ensures (outcomes_done c.args.scripts.now c.args.history.now (g.S.System.bytes c.args.system.now) _ _ _ _ c.in_ok-tell_outcomes.field-0 c.in_ok-scripts.ensures.ok c.in_ok-history.ensures.ok
    c.in_ok-tell_outcomes.ensures.tells)
