use Rattle.std.proofs.Common.{length}
use Rattle.list_steps.proofs.SeekLemmas.{IsSeeking, nodes_behind}
use Rattle.list_steps.proofs.search.seek.Given as goal

abbrev pub invariant-search : goal.invariant-search
invariant-search l = IsSeeking l.initial.list l.list l.fn.from l.place l.next l.at

abbrev pub decreases-search : goal.decreases-search
decreases-search l = length (nodes_behind l.list.nodes l.place)
