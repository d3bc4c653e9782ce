use Rattle.striped_map.specs.Keeps.{Keeps}
use Rattle.examples.proofs.transfers.open.Given as goal

abbrev pub invariant-loop-account : goal.invariant-loop-account
invariant-loop-account l = Keeps l.fn.t l.t
