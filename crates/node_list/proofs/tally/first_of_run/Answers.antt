use Rattle.std.proofs.Common.{arith}
use Rattle.node_list.proofs.RunLemmas.{run_of_zeros}
use Rattle.node_list.proofs.tally.first_of_run.Goals as goal

pub unreachable-requires : goal.unreachable-requires
unreachable-requires c = c.requires.some (run_of_zeros _ _ _ (λ place after before. c.run.invariant.1 place after (omega (arith, before))))
