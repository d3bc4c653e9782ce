use Rattle.std.proofs.Common.{take}
use Rattle.std.specs.List.{All}
use Rattle.order_check.specs.Outcomes.{IsOnce}
use Rattle.order_check.proofs.outcome.first_repeated.Given as goal

abbrev pub invariant-loop-edge : goal.invariant-loop-edge
invariant-loop-edge l = All (IsOnce l.accesses l.writers) (take l.edge-index l.edges)
