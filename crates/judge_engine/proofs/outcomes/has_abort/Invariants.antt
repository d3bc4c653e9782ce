use Rattle.std.proofs.Common.{◌≡◌, drop}
use Rattle.judge_engine.specs.Outcomes.{has_abort}
use Rattle.judge_engine.proofs.outcomes.has_abort.Given as goal

abbrev pub invariant-loop-action : goal.invariant-loop-action
invariant-loop-action l = has_abort (drop l.action-index l.fn.script) ≡ has_abort l.fn.script
