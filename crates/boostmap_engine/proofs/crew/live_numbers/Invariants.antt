use Rattle.std.proofs.Common.{◌≡◌, ◌++◌, drop}
use Rattle.boostmap_engine.proofs.Vocabulary.{live_from}
use Rattle.boostmap_engine.proofs.crew.live_numbers.Given as goal

abbrev pub invariant-loop-number : goal.invariant-loop-number
invariant-loop-number l = l.numbers.items ++ live_from l.number (drop l.number l.workers) ≡ live_from 0 l.workers
