use Rattle.std.proofs.Common.{ℕ}
use Rattle.order_check.specs.Known.{AreKnown}
use Rattle.order_check.specs.Outcomes.{ArePlain}
use Rattle.order_check.proofs.exclusion.narrow_all.Given as goal

abbrev pub invariant-loop-access : goal.invariant-loop-access
invariant-loop-access l = (n : ℕ) (since : ℕ → ℕ) → ArePlain n l.accesses → AreKnown n since l.accesses l.initial.known → AreKnown n since l.accesses l.known
