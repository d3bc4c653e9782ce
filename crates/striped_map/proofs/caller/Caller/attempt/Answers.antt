use Rattle.std.proofs.Common.{◌≡◌, ℕ, [], ◌∷◌, Ok, Err, rules, refl, sym, subst, ◌∙◌, inl}
use Rattle.std.proofs.lemmas.Result.{err_from_is_err_and}
use Rattle.txn_words.specs.declared.entry.Entry.TheVariants.{Committed}
use Rattle.striped_map.specs.Callers.{number, IsStep, IsTakenBack}
use Rattle.striped_map.proofs.Tries.{failed_by}
use Rattle.striped_map.proofs.CallSpans.{over_already}
use Rattle.striped_map.proofs.caller.Caller.attempt.Goals as goal

-- The work failed, and its transaction was dropped.
pub returns-in_err-value-clause-err : goal.returns-in_err-value-clause-err
returns-in_err-value-clause-err g c =
    let kept = c.requires.keeps _ _ _ c.in_err-value.ensures in
    let step = c.in_ok-begin.ensures.ok in
    let on = c.from_residual-in_err-value in
    let p = err_from_is_err_and on.result on.ensures.1 in
    let ends : c.self-1.given.0 ≡ c.drop-open.new.self.0 = search rules in
    rw (p.1, p.2) (λ was. inl (failed_by c.args.self.now c.begin.new.self c.work.new.arg2.me.now _ step.2 (Err c.in_err-value.field-0.0) _ step.3 (_, _, c.in_err-value.ensures, refl, refl) kept.goes_on refl
    (subst (IsTakenBack c.work.new.arg2.me.now) (sym ends) c.drop-open.ensures)))

-- The work continued after a call that was busy, so there was no transaction to commit.
pub returns-in_err-place-clause-err : goal.returns-in_err-place-clause-err
returns-in_err-place-clause-err g c =
    let kept = c.requires.keeps _ _ _ c.in_ok-value.ensures in
    let step = c.in_ok-begin.ensures.ok in
    let refused = c.in_err-place.ensures.err in
    let on = c.from_residual-in_err-place in
    let p = err_from_is_err_and on.result on.ensures.1 in
    let ends : c.self-2-1.given.0 ≡ c.commit.new.self.0 = search rules in
    rw (p.1, p.2) (λ was. inl (failed_by c.args.self.now c.begin.new.self c.work.new.arg2.me.now _ step.2 (Ok c.in_ok-value.value) _ step.3 (_, _, c.in_ok-value.ensures, refl, refl) kept.goes_on (refused.0, refused.1)
    (subst (IsTakenBack c.work.new.arg2.me.now) (sym ends) (over_already c.work.new.arg2.me.now c.commit.new.self.0 refused.1 refused.2))))

pub returns-clause-ok : goal.returns-clause-ok
returns-clause-ok g c =
    let kept = c.requires.keeps _ _ _ c.in_ok-value.ensures in
    let step = c.in_ok-begin.ensures.ok in
    let done = c.in_ok-place.ensures.ok in
    let left = c.work.new.arg2.me.now in
    let ends : c.self-2-1.given.0 ≡ c.commit.new.self.0 = search rules in (
      _,
      _,
      c.in_ok-value.ensures,
      record {
        txn = step.2;
        began = step.3;
        works = kept.goes_on;
        place = done.1;
        found_is = done.2;
        committed = subst (IsStep left (Committed (number c.args.self.now) done.1 ∷ [])) (sym ends)
            (subst (λ (k : ℕ). IsStep left (Committed k done.1 ∷ []) c.commit.new.self.0) (kept.goes_on.since.number_is ∙ step.3.number_is) done.3);
      },
    )
