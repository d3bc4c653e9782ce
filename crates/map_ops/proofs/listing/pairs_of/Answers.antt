use Rattle.std.proofs.Common.{◌∙◌, sym}
use Rattle.list_steps.proofs.NodeLemmas.{is_linked, next_linked, next_node, no_place, node_at}
use Rattle.list_steps.proofs.SeekLemmas.{behind_next}
use Rattle.map_ops.proofs.WalkLemmas.{walk_first, walk_next, walk_end}
use Rattle.map_ops.proofs.listing.pairs_of.Goals as goal

pub walk-init : goal.walk-init
walk-init c = rw (c.head-place.ensures.place, c.new-found.ensures.items) (walk_first _ c.head-place.ensures.sound)

pub node-requires : goal.node-requires
node-requires c = is_linked _ _ _ c.walk.invariant.at

pub node-node-requires : goal.node-node-requires
node-node-requires c =
    next_linked _ _ _ c.node.ensures.sound.spread (c.node.ensures.next ∙ sym c.in-Some.ensures)

pub walk-smaller : goal.walk-smaller
walk-smaller c =
    let next = next_node _ _ _ c.node.ensures.sound.spread (c.node.ensures.next ∙ sym c.in-Some.ensures) _ c.node-node.ensures.node in
    behind_next _ _ _ _ (node_at _ _ _ c.walk.invariant.at) next c.node.ensures.sound.spread

pub walk-preserved : goal.walk-preserved
walk-preserved c =
    let next = next_node _ _ _ c.node.ensures.sound.spread (c.node.ensures.next ∙ sym c.in-Some.ensures) _ c.node-node.ensures.node in
    walk_next _ _ _ c.walk.invariant _ _ c.node.ensures.sound.spread next c.in_ok-push_pair.ensures

pub returns : goal.returns
returns c = walk_end _ _ _ c.walk.invariant (no_place _ (c.node.ensures.next ∙ sym c.next.ensures ∙ c.in_default.is))
