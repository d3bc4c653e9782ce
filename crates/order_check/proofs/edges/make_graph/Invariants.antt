use Rattle.std.proofs.Common.{◌≡◌, length, take}
use Rattle.order_check.specs.declared.access.Access.{Access}
use Rattle.order_check.specs.Joined.{AreMeant, IsJoined}
use Rattle.order_check.specs.Tables.{IsAmong}
use Rattle.order_check.specs.Timing.{since_in}
use Rattle.order_check.proofs.edges.make_graph.Given as goal

abbrev pub invariant-loop-index : goal.invariant-loop-index
invariant-loop-index l = record {
  len : length l.graph.items ≡ l.count;
  meant : AreMeant l.accesses (since_in l.since) l.graph.items;
  joined : (a : Access) → IsAmong a (take l.index l.accesses) → IsJoined l.accesses l.replacers l.graph.items a;
}
