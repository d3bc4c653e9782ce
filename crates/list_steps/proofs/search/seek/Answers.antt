use Rattle.std.proofs.Common.{refl, sym, ◌∙◌, ap, arith}
use Rattle.node_list.specs.Seen.{node_seen}
use Rattle.node_list.proofs.FollowLemmas.{follows_self, follows_twice}
use Rattle.list_steps.specs.Content.{pairs}
use Rattle.list_steps.proofs.NodeLemmas.{next_linked, no_place}
use Rattle.node_list.proofs.NodesLemmas.{found_linked}
use Rattle.node_list.proofs.CountLemmas.{length-unlinked}
use Rattle.list_steps.proofs.SeekLemmas.{behind_fewer, behind_next, seeking_next, sought_at_end, sought_passed, sought_stopped, sought_unlinked, pred_from_start, pred_unlinked, changes_unchanged, changes_unlinked}
use Rattle.list_steps.proofs.ContentLemmas.{pairs_sought}
use Rattle.list_steps.proofs.search.seek.Goals as goal

pub node-requires : goal.node-requires
node-requires c = found_linked _ _ _ c.requires.is

pub search-init : goal.search-init
search-init c = record {
  sound = c.node.ensures.sound;
  pred = pred_from_start _ _ _ c.requires c.node.ensures.sound.plain;
  next = c.node.ensures.next ∙ sym c.next-next.ensures;
  rest = refl;
  kept = record { head = refl; last = refl; out = λ place. refl };
  fewer = omega arith;
  changes = changes_unchanged _ _;
  follows = follows_self _;
}

pub node-node-requires : goal.node-node-requires
node-node-requires c =
    let now = c.search.invariant in
    next_linked _ _ _ now.sound.spread (now.next ∙ c.in-Some.is)

pub unlink_after-requires : goal.unlink_after-requires
unlink_after-requires c =
    record {
      node = node_seen c.in-Some.there c.node-node.result.now;
      next = seeking_next c.search.invariant _ c.in-Some.is _ c.node-node.ensures.node;
      marked = c.if-node.true;
    }

pub node-requires-then-node : goal.node-requires-then-node
node-requires-then-node c =
    rw c.unlink_after.ensures.unlinked.nodes (found_linked _ _ _ (pred_unlinked _ _ _ c.search.invariant.pred).is)

pub search-smaller-then-node : goal.search-smaller-then-node
search-smaller-then-node c =
    let next = seeking_next c.search.invariant _ c.in-Some.is _ c.node-node.ensures.node in
    rw c.unlink_after.ensures.unlinked.nodes (behind_fewer _ _ _ _ c.search.invariant.pred.is next)

pub search-preserved-then-node : goal.search-preserved-then-node
search-preserved-then-node c =
    let before = c.search.invariant in
    let now = c.unlink_after.ensures.unlinked in
    let next = seeking_next before _ c.in-Some.is _ c.node-node.ensures.node in
    record {
      sound = c.node-then-node.ensures.sound;
      pred = rw now.nodes (pred_unlinked _ _ _ before.pred);
      next = c.node-then-node.ensures.next ∙ sym c.next-next-then-node.ensures;
      rest = rw now.nodes (sought_unlinked _ _ _ before.pred _ next c.if-node.true ∙ before.rest);
      kept = record {
        head = now.head ∙ before.kept.head;
        last = now.last ∙ before.kept.last;
        out = λ place. now.out place ∙ before.kept.out place;
      };
      fewer = rw now.nodes (omega (arith, before.fewer, length-unlinked _ _ _ next));
      changes = rw now.nodes (changes_unlinked _ _ _ _ _ _ (length-unlinked _ _ _ next) before.fewer before.changes now.changes);
      follows = follows_twice _ _ _ before.follows c.unlink_after.ensures.follows;
    }

pub search-smaller : goal.search-smaller
search-smaller c =
    let now = c.search.invariant in
    let next = seeking_next now _ c.in-Some.is _ c.node-node.ensures.node in
    behind_next _ _ _ _ now.pred.is next now.sound.spread

pub search-preserved : goal.search-preserved
search-preserved c =
    let before = c.search.invariant in
    let next = seeking_next before _ c.in-Some.is _ c.node-node.ensures.node in
    let below = sym c.is_before.ensures ∙ c.if-is_before.true in
    record {
      sound = before.sound;
      pred = record {
        node = node_seen c.in-Some.there c.node-node.result.now;
        is = c.node-node.ensures.node;
        unmarked = c.if-node.false;
        below = below;
      };
      next = c.node-node.ensures.next ∙ sym c.next-next-then-is_before.ensures;
      rest = sought_passed _ _ _ before.pred _ next before.sound.spread c.if-node.false below ∙ before.rest;
      kept = before.kept;
      fewer = before.fewer;
      changes = before.changes;
      follows = before.follows;
    }

pub between-requires-clause-beyond : goal.between-requires-clause-beyond
between-requires-clause-beyond c =
    let next = seeking_next c.search.invariant _ c.in-Some.is _ c.node-node.ensures.node in
    rw next (c.if-node.false, (sym c.is_before.ensures ∙ c.if-is_before.false))

pub returns-else-is_before-clause-nodes : goal.returns-else-is_before-clause-nodes
returns-else-is_before-clause-nodes c =
    let now = c.search.invariant in
    let next = seeking_next now _ c.in-Some.is _ c.node-node.ensures.node in
    sym (sought_stopped _ _ _ now.pred _ next c.if-node.false (sym c.is_before.ensures ∙ c.if-is_before.false)) ∙ now.rest

pub returns-else-is_before-clause-content : goal.returns-else-is_before-clause-content
returns-else-is_before-clause-content c = ap pairs (returns-else-is_before-clause-nodes c) ∙ pairs_sought _ _ _ c.requires

pub returns-clause-nodes : goal.returns-clause-nodes
returns-clause-nodes c =
    let now = c.search.invariant in
    let nothing = no_place _ (now.next ∙ c.in_default.is) in
    sym (sought_at_end _ _ _ now.pred nothing) ∙ now.rest

pub returns-clause-content : goal.returns-clause-content
returns-clause-content c = ap pairs (returns-clause-nodes c) ∙ pairs_sought _ _ _ c.requires
