use Rattle.std.specs.Prelude.{◌-◌, length, map}
use Rattle.thread_runs.proofs.Vocabulary.{IsIn, IsSameCaller, outcome_told}
use Rattle.script_worker.proofs.Vocabulary.{Closed}
use Rattle.thread_runs.proofs.Rounds.{IsSoFar}
use Rattle.thread_runs.proofs.worker.Orders.outcomes.Given as goal

abbrev pub invariant-loop-script : goal.invariant-loop-script
invariant-loop-script g l =
    IsSameCaller l.fn.me l.me × IsSoFar l.fn.me.limits.half l.self.workers l.self.tries l.fn.me.number l.self.scripts.now l.number (map outcome_told l.outcomes.items) l.me.seen
    × IsIn Closed l.me.broken l.me.seen

abbrev pub decreases-loop-script : goal.decreases-loop-script
decreases-loop-script g l = length l.self.scripts.now - l.number
