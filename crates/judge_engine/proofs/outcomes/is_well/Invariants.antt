use Rattle.std.proofs.Common.{◌≡◌, ℕ, ◌<◌, List, Some, true}
use Rattle.std.specs.Prelude.{slice_get}
use Rattle.txn_words.specs.declared.action.Action.{Action}
use Rattle.script_worker.specs.declared.outcome.Outcome.TheVariants.{GivenUp}
use Rattle.judge_engine.specs.Outcomes.{has_abort}
use Rattle.judge_engine.proofs.outcomes.is_well.Given as goal

abbrev pub invariant-loop-number : goal.invariant-loop-number
invariant-loop-number l =
    (n : ℕ) (script : List Action) → n < l.number → slice_get l.fn.scripts n ≡ Some script → slice_get l.fn.outcomes n ≡ Some GivenUp → has_abort script ≡ true
