use Rattle.std.proofs.Common.{ℕ, sym}
use Rattle.list_steps.specs.Steps.{Marks}
use Rattle.list_steps.proofs.StepLemmas.{at_node, regular_there}
use Rattle.list_steps.proofs.at_cursor.mark.Goals as goal

pub mark_at-requires : goal.mark_at-requires
mark_at-requires c =
    let here = rw c.in-Some.is at c.in_ok-node.ensures.ok in
    regular_there _ _ (sym c.in_ok-node.ensures.again) _ here c.requires.there

pub returns-clause-ok : goal.returns-clause-ok
returns-clause-ok c =
    let here = rw c.in-Some.is at c.in_ok-node.ensures.ok in
    at_node _ _ _ here (λ (p : ℕ). Marks c.args.list.now c.mark_at.new.list p c.mark_at.result) c.mark_at.ensures.marks
