use Rattle.std.proofs.Common.{refl, sym, ◌∙◌}
use Rattle.list_steps.proofs.NodeLemmas.{next_linked, next_node}
use Rattle.list_steps.proofs.steps.node_there.Goals as goal

pub node-requires-2 : goal.node-requires-2
node-requires-2 c = next_linked _ _ _ c.node.ensures.sound.spread (c.node.ensures.next ∙ sym c.in_ok-next.ensures)

pub returns-then-eq : goal.returns-then-eq
returns-then-eq c =
    let next = c.node.ensures.next ∙ sym c.in_ok-next.ensures in
    let behind = next_node _ _ _ c.node.ensures.sound.spread next _ c.node-2.ensures.node in
    rw (behind, sym c.eq.ensures ∙ c.if-eq.true) refl

pub returns-else-eq : goal.returns-else-eq
returns-else-eq c =
    let next = c.node.ensures.next ∙ sym c.in_ok-next.ensures in
    let behind = next_node _ _ _ c.node.ensures.sound.spread next _ c.node-2.ensures.node in
    rw (behind, sym c.eq.ensures ∙ c.if-eq.false) refl
