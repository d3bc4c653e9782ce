use Rattle.std.proofs.Common.{◌∙◌, ◌++◌, ◌∷◌, [], map, refl, ap, inr}
use Rattle.thread_runs.proofs.Vocabulary.{outcome_told}
use Rattle.script_worker.proofs.Vocabulary.{closed_stance, map-append, stance_after, slice_get_past, slice_get_read}
use Rattle.thread_runs.proofs.Rounds.{so_far_start, so_far_more, so_far_all}
use Rattle.thread_runs.proofs.worker.Orders.outcomes.Goals as goal

pub loop-script-init : goal.loop-script-init
loop-script-init g c = (
  record { number = refl; limits = refl },
  so_far_start _ _ _ _ _ _ _ _ c.number-number.ensures (ap (map outcome_told) c.new-outcomes.ensures.items) c.requires.fresh,
  inr (closed_stance, ap stance_after c.requires.fresh, refl),
)

pub loop-script-preserved : goal.loop-script-preserved
loop-script-preserved g c =
    let same = c.run_script-outcome.ensures.same in
    let inv = c.loop-script.invariant in
    let outcome = c.run_script-outcome.result in (
      record { number = same.number ∙ inv.0.number; limits = same.limits ∙ inv.0.limits },
      so_far_more _ _ _ _ _ _ _ _ c.in-Some.script.now (outcome_told outcome) _ _ c.args.self.now.some
          (slice_get_read _ _ _ _ refl c.in-Some.ensures.lookup.3.0 c.in-Some.ensures.lookup.1)
          (rw (inv.0.number, c.actions-actions.ensures) at c.run_script-outcome.ensures.told)
          (rw (inv.0.limits, c.actions-actions.ensures) at c.run_script-outcome.ensures.may)
          (ap (map outcome_told) (c.push_reserved.ensures.items ∙ ap (λ os. os ++ outcome ∷ []) c.in_ok-reserve.ensures.items) ∙ map-append outcome_told c.loop-script.outcomes.items (outcome ∷ [])) inv.1,
      c.run_script-outcome.ensures.closed,
    )

pub returns-clause-ran : goal.returns-clause-ran
returns-clause-ran g c =
    rw (c.args.self.now.all_workers, c.args.self.now.all_tries, c.args.self.now.all_scripts) at
    (so_far_all _ _ _ _ _ _ _ _ c.args.self.now.some (slice_get_past _ _ c.in_default.ensures.lookup.3) c.loop-script.invariant.1)
