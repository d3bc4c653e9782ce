use Rattle.thread_runs.proofs.Vocabulary.{heard_of, IsSameCaller}
use Rattle.thread_runs.proofs.Adding.{IsBefore}
use Rattle.thread_runs.proofs.run_script.run_script.Given as goal

abbrev pub invariant-loop : goal.invariant-loop
invariant-loop g l = IsSameCaller l.fn.me l.me × IsBefore l.fn.me.number l.fn.me.limits.half l.fn.script l.fn.me.seen (heard_of l.heard) l.me.broken l.me.seen
