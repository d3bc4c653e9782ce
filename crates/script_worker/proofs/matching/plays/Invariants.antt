use Rattle.std.proofs.Common.{drop}
use Rattle.txn_trace.specs.Plays.{ArePlayed, IsPlayed}
use Rattle.script_worker.proofs.matching.plays.Given as goal

abbrev pub invariant-loop-packed : goal.invariant-loop-packed
invariant-loop-packed l =
    (IsPlayed l.fn.script l.fn.part → ArePlayed (drop l.packed-index l.fn.script) l.rest)
    × (ArePlayed (drop l.packed-index l.fn.script) l.rest → IsPlayed l.fn.script l.fn.part)
