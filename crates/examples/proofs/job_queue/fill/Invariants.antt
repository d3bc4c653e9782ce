use Rattle.striped_map.specs.Keeps.{Keeps}
use Rattle.examples.proofs.job_queue.fill.Given as goal

abbrev pub invariant-loop-job : goal.invariant-loop-job
invariant-loop-job l = Keeps l.fn.t l.t
