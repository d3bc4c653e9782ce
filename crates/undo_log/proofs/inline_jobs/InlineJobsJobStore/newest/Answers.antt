use Rattle.std.proofs.Common.{◌≡◌, ◌-◌, ◌∙◌, Some, IsSome, ap, length, slice_get, rules, arith}
use Rattle.undo_log.proofs.Jobs.{IsNewest, newest}
use Rattle.undo_log.proofs.inline_jobs.InlineJobsJobStore.newest.Given as given
use Rattle.undo_log.proofs.inline_jobs.InlineJobsJobStore.newest.Goals as goal

seen : (g : given.Over) (c : goal.After-as_ref g) → IsNewest c.self.inside.places.items c.in_ok-last.field-0.now
seen g c =
    let is : slice_get c.self.inside.places.items (length c.self.inside.places.items - 1) ≡ Some c.in_ok-last.field-0.now = search rules in
    newest c.self.inside.places.items c.in_ok-last.field-0.now c.self.invariant.there is

pub returns-clause-newest : goal.returns-clause-newest
returns-clause-newest g c =
    c.as_ref.ensures.value ∙ (seen g c).last ∙ ap (λ s. slice_get s.jobs (length s.jobs - 1)) c.self.view_is

pub returns-clause-some : goal.returns-clause-some
returns-clause-some g c =
    let some : IsSome c.as_ref.result = search (rules, (seen g c).some) in
    (λ _. omega (arith, (seen g c).any, ap (λ s. length s.jobs) c.self.view_is), λ _. some)
