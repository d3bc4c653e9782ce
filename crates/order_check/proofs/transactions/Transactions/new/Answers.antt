use Rattle.std.proofs.Common.{sym, subst}
use Rattle.order_check.specs.Timing.{AreBegun}
use Rattle.order_check.proofs.SinceSteps.{begun_none}
use Rattle.order_check.proofs.transactions.Transactions.new.Goals as goal

pub invariant_of-result-clause-timing : goal.invariant_of-result-clause-timing
invariant_of-result-clause-timing c =
    subst (λ n. AreBegun n c.new-3.result.items c.in_ok-vec-2.field-0.items) (sym c.new-2.ensures.len)
    (begun_none c.new-3.result.items c.in_ok-vec-2.field-0.items 64 c.new-3.ensures.items (c.in_ok-vec-2.ensures.items_if_clones_equal (λ x same. same)))
