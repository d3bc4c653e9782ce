use Rattle.std.proofs.Common.{◌≡◌, ℕ, ◌<◌, [], length, get_or}
use Rattle.boostmap_engine.proofs.Vocabulary.{first_crew, IsMember, Worker}
use Rattle.boostmap_engine.proofs.crew.workers_of.Given as goal

abbrev pub invariant-loop-number : goal.invariant-loop-number
invariant-loop-number l = record {
  size : length l.workers.items ≡ l.number;
  first : l.workers.items ≡ first_crew l.scripts l.limits l.number;
  each : (tries w : ℕ) (other : Worker) → w < length l.workers.items → IsMember l.scripts tries l.limits.callers [] w (get_or l.workers.items w other);
}
