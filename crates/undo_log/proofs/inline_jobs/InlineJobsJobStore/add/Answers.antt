use Rattle.std.proofs.Common.{◌∙◌, length, [], ◌∷◌, ◌++◌, Some, ap, sym, subst, arith}
use Rattle.std.proofs.lemmas.List.{length_push}
use Rattle.undo_log.specs.InlineJobs.{AreThere, jobs_in}
use Rattle.undo_log.proofs.Jobs.{AreThere-push, jobs_in-push}
use Rattle.undo_log.proofs.inline_jobs.InlineJobsJobStore.add.Goals as goal

pub invariant_of-self : goal.invariant_of-self
invariant_of-self g c = record {
  there = subst AreThere (sym c.push_reserved.ensures.items) (AreThere-push c.self.inside.places.items c.args.job c.self.invariant.there);
  fits = omega (arith, c.requires, ap (λ s. s.room) c.self.view_is, c.push_reserved.ensures.capacity, ap length c.push_reserved.ensures.items, length_push c.self.inside.places.items (Some c.args.job));
  inline_fit = omega (arith, c.self.invariant.inline_fit, c.push_reserved.ensures.capacity);
}

pub returns-clause-jobs : goal.returns-clause-jobs
returns-clause-jobs g c =
    ap jobs_in c.push_reserved.ensures.items
    ∙ jobs_in-push c.self.inside.places.items c.args.job
    ∙ ap (λ s. s.jobs ++ c.args.job ∷ []) c.self.view_is
