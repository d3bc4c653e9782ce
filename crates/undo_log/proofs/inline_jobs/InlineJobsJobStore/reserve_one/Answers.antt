use Rattle.std.proofs.Common.{length, ap, arith}
use Rattle.undo_log.proofs.Jobs.{length_jobs_in}
use Rattle.undo_log.proofs.inline_jobs.InlineJobsJobStore.reserve_one.Goals as goal

pub returns-clause-inline : goal.returns-clause-inline
returns-clause-inline g c few =
    c.reserve.ensures.succeeds
    (omega (arith, few, c.self.invariant.inline_fit, length_jobs_in c.self.inside.places.items c.self.invariant.there, ap (λ s. length s.jobs) c.self.view_is))
