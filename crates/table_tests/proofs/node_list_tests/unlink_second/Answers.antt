use Rattle.std.proofs.Common.{sym, ◌∙◌}
use Rattle.node_list.proofs.NodesLemmas.{found_linked, linked_more, next_linked, next-found}
use Rattle.node_list.specs.Seen.{node_seen}
use Rattle.table_tests.proofs.node_list_tests.unlink_second.Goals as goal

pub node-requires : goal.node-requires
node-requires c = rw c.head-head.ensures.place (found_linked _ _ _ c.head-head.ensures.sound.first.is)

pub node-requires-2 : goal.node-requires-2
node-requires-2 c = linked_more _ _ (next_linked _ _ _ (c.node.ensures.next ∙ sym c.in-Some.ensures)).1

pub unlink_after-requires : goal.unlink_after-requires
unlink_after-requires c = record {
  node = node_seen c.in-Some.next c.node-2.result.now;
  next = next-found _ _ _ _ c.node.ensures.sound.spread (c.node.ensures.next ∙ sym c.in-Some.ensures) c.node-2.ensures.node;
  marked = c.if-not-node.false;
}
