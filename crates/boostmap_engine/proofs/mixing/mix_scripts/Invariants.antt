use Rattle.std.proofs.Common.{◌≡◌, ℕ, List, length}
use Rattle.boostmap_engine.proofs.Vocabulary.{beginning, IsCrew, live_from, TakeDrawn}
use Rattle.boostmap_engine.proofs.mixing.mix_scripts.Given as goal

abbrev pub invariant-loop-turn : goal.invariant-loop-turn
invariant-loop-turn l = record {
  limits : l.core.limits ≡ l.work.sizes;
  crew : IsCrew l.work.scripts l.work.tries l.work.sizes.callers l.core.history l.workers.items;
  live : l.live.items ≡ live_from 0 l.workers.items;
  turns : (drawn : List ℕ) × (length drawn ≡ l._turn) × TakeDrawn l.work.scripts l.work.tries (beginning l.work l.seed) drawn (record { core = l.core; crew = l.workers.items; generator = l.generator });
}
