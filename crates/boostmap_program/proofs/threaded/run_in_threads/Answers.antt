use Rattle.std.proofs.Common.{◌≤◌, map, subst, sym}
use Rattle.thread_runs.specs.Runs.{outcome_told}
use Rattle.boostmap_program.proofs.Threading.{few_tries, threaded_is}
use Rattle.boostmap_program.proofs.threaded.run_in_threads.Goals as goal

pub run_scripts-requires-clause-tries : goal.run_scripts-requires-clause-tries
run_scripts-requires-clause-tries g c κs within =
    subst (λ n. n ≤ 1000) (sym c.tries.ensures) (few_tries c.args.bytes.items c.in_ok-work.work c.in_ok-work.ensures)

pub returns-clause-ok : goal.returns-clause-ok
returns-clause-ok g c =
    threaded_is c.args.bytes.items c.in_ok-work.work c.limits-limits.result c.callers-workers.result c.tries.result c.stripes.result c.scripts.result.now (map outcome_told c.in-Ok.ran.outcomes.items) c.in-Ok.ran.trace.items
    c.in_ok-work.ensures c.limits-limits.ensures c.callers-workers.ensures.value c.tries.ensures c.stripes.ensures.value c.scripts.ensures c.in-Ok.ensures.ran
