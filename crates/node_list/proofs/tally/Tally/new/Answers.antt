use Rattle.std.proofs.Common.{◌*◌}
use Rattle.node_list.proofs.TallySteps.{nothing_summed, zero_at}
use Rattle.node_list.proofs.tally.Tally.new.Goals as goal

pub invariant_of-result : goal.invariant_of-result
invariant_of-result c = rw (c.in_ok-groups.ensures, c.in_ok-regions.ensures) nothing_summed

pub returns-clause-counts : goal.returns-clause-counts
returns-clause-counts c region = rw c.in_ok-regions.ensures (zero_at (64 * 64) region)
