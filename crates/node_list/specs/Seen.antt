-- A node as contracts see it.
use Rattle.std.specs.Prelude.{ℕ}
use Rattle.node_list.specs.declared.node.Node.{Node}
use Rattle.node_list.specs.Nodes.{NodeAt}

-- The node that is stored at a place, as contracts see it.
abbrev pub node_seen : ℕ → Node → NodeAt
node_seen place n = record {
  place = place;
  at = n.at;
  kind = n.kind;
  value = n.value;
  stamp = n.stamp;
  marked = n.marked;
}
