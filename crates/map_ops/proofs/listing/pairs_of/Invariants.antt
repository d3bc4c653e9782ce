use Rattle.std.proofs.Common.{length}
use Rattle.list_steps.proofs.SeekLemmas.{nodes_behind}
use Rattle.map_ops.proofs.WalkLemmas.{IsWalking}
use Rattle.map_ops.proofs.listing.pairs_of.Given as goal

abbrev pub invariant-walk : goal.invariant-walk
invariant-walk l = IsWalking l.list.nodes l.place l.found.items

abbrev pub decreases-walk : goal.decreases-walk
decreases-walk l = length (nodes_behind l.list.nodes l.place)
