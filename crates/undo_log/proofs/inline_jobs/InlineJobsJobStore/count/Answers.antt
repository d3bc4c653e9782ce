use Rattle.std.proofs.Common.{◌∙◌, ap, sym, length}
use Rattle.undo_log.proofs.Jobs.{length_jobs_in}
use Rattle.undo_log.proofs.inline_jobs.InlineJobsJobStore.count.Goals as goal

pub returns : goal.returns
returns g c = c.len.ensures.value ∙ sym (length_jobs_in c.self.inside.places.items c.self.invariant.there) ∙ ap (λ s. length s.jobs) c.self.view_is
