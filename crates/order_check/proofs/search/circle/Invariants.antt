use Rattle.order_check.proofs.CycleSearch.{Collected}
use Rattle.order_check.proofs.search.circle.Given as goal

abbrev pub invariant-loop-back : goal.invariant-loop-back
invariant-loop-back l = Collected l.graph l.start l.path l.back l.edges.items
