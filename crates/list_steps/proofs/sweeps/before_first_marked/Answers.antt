use Rattle.std.proofs.Common.{◌∙◌, sym}
use Rattle.node_list.specs.Seen.{node_seen}
use Rattle.list_steps.proofs.NodeLemmas.{is_linked, next_linked, next_node, no_place, node_at}
use Rattle.list_steps.proofs.SeekLemmas.{behind_next}
use Rattle.list_steps.proofs.SweepLemmas.{sweeping_from, sweeping_passed, sweeping_found, sweeping_ends}
use Rattle.list_steps.proofs.sweeps.before_first_marked.Goals as goal

pub walk-init : goal.walk-init
walk-init c = sweeping_from _ _ c.changes-changes.ensures.sound.rising c.requires.start

pub node-requires : goal.node-requires
node-requires c = is_linked _ _ _ c.walk.invariant.at

pub node-requires-in-Some : goal.node-requires-in-Some
node-requires-in-Some c =
    next_linked _ _ _ c.node.ensures.sound.spread (c.node.ensures.next ∙ sym c.in-Some.ensures)

pub walk-smaller : goal.walk-smaller
walk-smaller c =
    let next = next_node _ _ _ c.node.ensures.sound.spread (c.node.ensures.next ∙ sym c.in-Some.ensures) _ c.node-in-Some.ensures.node in
    behind_next _ _ _ _ (node_at _ _ _ c.walk.invariant.at) next c.node.ensures.sound.spread

pub walk-preserved : goal.walk-preserved
walk-preserved c =
    let next = next_node _ _ _ c.node.ensures.sound.spread (c.node.ensures.next ∙ sym c.in-Some.ensures) _ c.node-in-Some.ensures.node in
    sweeping_passed _ _ c.walk.invariant _ c.node.ensures.sound.spread next c.if-node.false

pub returns-then-node-clause-marked : goal.returns-then-node-clause-marked
returns-then-node-clause-marked c =
    record {
      node = node_seen c.in-Some.next c.node-in-Some.result.now;
      next = next_node _ _ _ c.node.ensures.sound.spread (c.node.ensures.next ∙ sym c.in-Some.ensures) _ c.node-in-Some.ensures.node;
      marked = c.if-node.true;
    }

pub returns-then-node-clause-first : goal.returns-then-node-clause-first
returns-then-node-clause-first c =
    let next = next_node _ _ _ c.node.ensures.sound.spread (c.node.ensures.next ∙ sym c.in-Some.ensures) _ c.node-in-Some.ensures.node in
    sweeping_found _ _ c.walk.invariant _ next c.if-node.true

pub unreachable-requires : goal.unreachable-requires
unreachable-requires c = c.requires.some (sweeping_ends _ _ c.walk.invariant (no_place _ (c.node.ensures.next ∙ sym c.next.ensures ∙ c.in_default.is)))
