use Rattle.order_check.specs.Search.{IsSearch, StaysVisited}
use Rattle.order_check.proofs.Work.{left_over}
use Rattle.order_check.proofs.search.follow.Given as goal

abbrev pub invariant-loop-path : goal.invariant-loop-path
invariant-loop-path l = record {
  keeps : IsSearch l.graph l.visits.items l.path.items l.order.items;
  visited : StaysVisited l.initial.visits.items l.visits.items;
}

abbrev pub decreases-loop-path : goal.decreases-loop-path
decreases-loop-path l = left_over l.graph l.visits.items
