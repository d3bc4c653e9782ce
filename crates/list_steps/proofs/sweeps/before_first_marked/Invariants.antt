use Rattle.std.proofs.Common.{length}
use Rattle.list_steps.proofs.SeekLemmas.{nodes_behind}
use Rattle.list_steps.proofs.SweepLemmas.{IsSweeping}
use Rattle.list_steps.proofs.sweeps.before_first_marked.Given as goal

abbrev pub invariant-walk : goal.invariant-walk
invariant-walk l = IsSweeping l.list.nodes l.place

abbrev pub decreases-walk : goal.decreases-walk
decreases-walk l = length (nodes_behind l.list.nodes l.place)
