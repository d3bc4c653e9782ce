use Rattle.std.proofs.Common.{◌≡◌, []}
use Rattle.order_check.specs.Search.{IsSearch}
use Rattle.order_check.proofs.Rooting.{AreVisited}
use Rattle.order_check.proofs.search.find_order.Given as goal

abbrev pub invariant-loop-root : goal.invariant-loop-root
invariant-loop-root l = record {
  keeps : IsSearch l.graph l.visits.items l.path.items l.order.items;
  idle : l.path.items ≡ [];
  visited : AreVisited l.visits.items l.root;
}
