use Rattle.std.proofs.Common.{◌≡◌, ℕ, List, ◌++◌, length}
use Rattle.judge_engine.specs.declared.basis.Basis.{Basis}
use Rattle.judge_engine.specs.Watchers.{TookIn}
use Rattle.judge_engine.proofs.watcher.Watcher.take_in.Given as goal

abbrev pub invariant-lines : goal.invariant-lines
invariant-lines l =
    (done : List ℕ) × (l.fn.chunk ≡ done ++ l.rest)
    × ((basis : Basis) (bytes : List ℕ) → TookIn basis bytes l.fn.self → TookIn basis (bytes ++ done) l.self)

abbrev pub decreases-lines : goal.decreases-lines
decreases-lines l = length l.rest
