use Rattle.std.proofs.Common.{sym, ◌∙◌}
use Rattle.node_list.specs.Seen.{node_seen}
use Rattle.list_steps.proofs.NodeLemmas.{next_linked, next_node}
use Rattle.list_steps.proofs.CursorLemmas.{next_noted, same_from_test}
use Rattle.list_steps.proofs.cursor.Cursor.is_next_fitting.Goals as goal

pub node-requires-then-eq : goal.node-requires-then-eq
node-requires-then-eq c =
    next_linked _ _ _ c.node.ensures.sound.spread (c.node.ensures.next ∙ sym c.next.ensures ∙ c.in-Some-Some.is-0)

pub returns-then-eq : goal.returns-then-eq
returns-then-eq c =
    let next = c.node.ensures.next ∙ sym c.next.ensures ∙ c.in-Some-Some.is-0 in
    let behind = next_node _ _ _ c.node.ensures.sound.spread next _ c.node-then-eq.ensures.node in
    let same = same_from_test _ _ (sym c.eq.ensures ∙ c.if-eq.true) in
    rw (behind, c.in-Some-Some.is-1) (c.is_unmarked_with.ensures ∙ sym (next_noted (node_seen c.in-Some-Some.next c.node-then-eq.result.now) c.in-Some-Some.cur same))
