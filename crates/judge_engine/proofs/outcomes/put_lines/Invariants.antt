use Rattle.std.proofs.Common.{◌≡◌, ◌++◌, take}
use Rattle.std.specs.Prelude.{string_bytes}
use Rattle.judge_engine.specs.Outcomes.{outcome_lines}
use Rattle.judge_engine.proofs.outcomes.put_lines.Given as goal

abbrev pub invariant-loop-number : goal.invariant-loop-number
invariant-loop-number l =
    string_bytes l.text ≡ string_bytes l.fn.text ++ outcome_lines l.fn.workers 0 (take l.number l.fn.outcomes)
