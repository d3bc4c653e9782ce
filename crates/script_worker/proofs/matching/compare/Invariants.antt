use Rattle.std.proofs.Common.{drop}
use Rattle.script_worker.specs.Matches.{ReachAbort, AbortsItself}
use Rattle.script_worker.proofs.matching.compare.Given as goal

abbrev pub invariant-loop-packed : goal.invariant-loop-packed
invariant-loop-packed l =
    ReachAbort (drop l.packed-index l.fn.script) l.rest → AbortsItself l.fn.script l.fn.part
