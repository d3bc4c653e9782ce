use Rattle.std.proofs.Common.{◌-◌, ◌∙◌, ap, sym, length, slice_get, arith}
use Rattle.undo_log.proofs.Jobs.{IsPopped, popped, length_jobs_in}
use Rattle.undo_log.proofs.inline_jobs.InlineJobsJobStore.take_newest.Given as given
use Rattle.undo_log.proofs.inline_jobs.InlineJobsJobStore.take_newest.Goals as goal

taken : (g : given.Over) (c : goal.In_ok-pop g) → IsPopped c.self.inside.places.items c.pop.new.self.items c.in_ok-pop.field-0
taken g c = popped c.self.inside.places.items c.pop.new.self.items c.in_ok-pop.field-0 c.in_ok-pop.ensures.items c.self.invariant.there

pub invariant_of-self-2 : goal.invariant_of-self-2
invariant_of-self-2 g c = record {
  there = (taken g c).there;
  fits = omega (arith, c.self.invariant.fits, c.in_ok-pop.ensures.len, c.in_ok-pop.ensures.capacity);
  inline_fit = omega (arith, c.self.invariant.inline_fit, c.in_ok-pop.ensures.capacity);
}

pub returns-clause-newest : goal.returns-clause-newest
returns-clause-newest g c = (taken g c).last ∙ ap (λ s. slice_get s.jobs (length s.jobs - 1)) c.self.view_is

pub returns-clause-some : goal.returns-clause-some
returns-clause-some g c =
    (λ _. omega (arith, c.in_ok-pop.ensures.len, length_jobs_in c.self.inside.places.items c.self.invariant.there, ap (λ s. length s.jobs) c.self.view_is), λ _. (taken g c).some)

pub returns-clause-jobs : goal.returns-clause-jobs
returns-clause-jobs g c = ap (λ s. s.jobs) (sym c.self.view_is) ∙ (taken g c).jobs

pub returns-clause-room : goal.returns-clause-room
returns-clause-room g c =
    omega (arith, c.self.invariant.fits, c.in_ok-pop.ensures.len, c.in_ok-pop.ensures.capacity, (taken g c).one, ap (λ s. s.room) c.self.view_is)
