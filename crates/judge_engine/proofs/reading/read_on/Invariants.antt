use Rattle.std.proofs.Common.{ℕ, ◌<◌, List, [], length}
use Rattle.std.specs.Io.KnownBytes.{Consumes}
use Rattle.judge_engine.specs.declared.basis.Basis.{Basis}
use Rattle.judge_engine.specs.Watchers.{TookIn}
use Rattle.judge_engine.proofs.reading.read_on.Given as goal

abbrev pub invariant-reads : goal.invariant-reads
invariant-reads g l =
    (bytes : List ℕ)
    × Consumes (g.R.Read.remaining l.fn.input) (g.R.Read.remaining l.input) bytes
    × (0 < length l.chunk)
    × ((basis : Basis) → TookIn basis [] l.fn.watcher → TookIn basis bytes l.watcher)
