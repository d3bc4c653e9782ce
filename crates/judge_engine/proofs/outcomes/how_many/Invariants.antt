use Rattle.std.proofs.Common.{◌≡◌, ◌≤◌, take}
use Rattle.judge_engine.specs.Outcomes.{how_many}
use Rattle.judge_engine.proofs.outcomes.how_many.Given as goal

abbrev pub invariant-loop-outcome : goal.invariant-loop-outcome
invariant-loop-outcome l =
    (l.number ≡ how_many l.fn.kind (take l.outcome-index l.fn.outcomes)) × (l.number ≤ l.outcome-index)
