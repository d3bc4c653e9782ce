use Rattle.std.proofs.Common.{rules, ◌≡◌, slice_index_or, subst, sym, ◌∙◌}
use Rattle.samples.proofs.Vocabulary.{get_or_from_slice_get, slice_get_within}
use Rattle.samples.specs.declared.visits.Visited.{Visited}
use Rattle.samples.specs.declared.visits.Visitor.{Visitor}
use Rattle.samples.specs.Visits.{HasMade}
use Rattle.samples.proofs.visits.go_all.Goals as goal

pub returns-clause-each : goal.returns-clause-each
returns-clause-each g c = λ i v d at_v at_d.
    let k = (c.in_ok-done.ensures.each i d (slice_get_within c.args.visitors.items i v at_v)).1 in
    let here = get_or_from_slice_get c.in_ok-done.done.items i d d at_d in
    let job : k.job ≡ v = sym (k.job_is v) ∙ get_or_from_slice_get c.args.visitors.items i v v at_v in
    let met = k.call.met in
    let made : HasMade k.job.visit (slice_index_or c.in_ok-done.done.items i d).answer k.job.me (slice_index_or c.in_ok-done.done.items i d).me = search rules in
    subst (λ (x : Visitor). HasMade x.visit d.answer x.me d.me) job (subst (λ (e : Visited). HasMade k.job.visit e.answer k.job.me e.me) here made)
