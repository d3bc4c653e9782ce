use Rattle.std.proofs.Common.{ℕ, sym}
use Rattle.list_steps.specs.Steps.{Swaps}
use Rattle.list_steps.proofs.StepLemmas.{at_node, regular_there}
use Rattle.list_steps.proofs.at_cursor.swap.Goals as goal

pub swap_at-requires : goal.swap_at-requires
swap_at-requires c =
    let here = rw c.in-Some.is at c.in_ok-node.ensures.ok in
    regular_there _ _ (sym c.in_ok-node.ensures.again) _ here c.requires.there

pub returns-clause-ok : goal.returns-clause-ok
returns-clause-ok c =
    let here = rw c.in-Some.is at c.in_ok-node.ensures.ok in
    at_node _ _ _ here (λ (p : ℕ). Swaps c.args.list.now c.swap_at.new.list p c.swap_at.result c.args.value) c.swap_at.ensures.swaps
