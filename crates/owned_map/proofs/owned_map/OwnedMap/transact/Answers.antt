use Rattle.std.proofs.Common.{◌≡◌, ℕ, rules, subst, sym, inl, inr, refl}
use Rattle.std.proofs.lemmas.Result.{err_from_is_err_and}
use Rattle.owned_map.specs.declared.owned_map.OwnedMap.{OwnedMap}
use Rattle.owned_map.specs.Within.{IsCommitted, IsRun, IsSameMap, IsTakenBack}
use Rattle.txn_words.specs.declared.answer.Answer.TheVariants.{Committed}
use Rattle.txn_words.specs.declared.step.Step.TheVariants.{Commit}
use Rattle.boost_core.specs.Machine.{Happens}
use Rattle.owned_map.specs.Effects.{HasAborted, IsNotCommitted}
use Rattle.owned_map.proofs.Calls.{run, undone, on_err}
use Rattle.owned_map.proofs.owned_map.OwnedMap.transact.Goals as goal

pub returns-clause-ok : goal.returns-clause-ok
returns-clause-ok g c =
    let keeps = c.requires.keeps _ _ _ c.in_ok-value.ensures in
    let left : c.self-2-1.given.0 ≡ c.commit.new.self.0 = search rules in
    let Ends : OwnedMap → Type 0 = λ m. IsRun c.args.caller c.args.self.now.core c.begin.new.self.core c.work.new.arg2.map.now.core m.core in
    let Commits : ℕ → OwnedMap → Type 0 = λ d m. Happens c.work.new.arg2.map.now.core (Commit d) (Committed c.in_ok-commit.field-0) m.core in (
      _,
      _,
      c.in_ok-value.ensures,
      subst Ends (sym left)
          (run c.args.caller c.in_ok-commit.field-0 c.args.self.now.core c.begin.new.self.core c.work.new.arg2.map.now.core c.commit.new.self.0.core c.in_ok-begin.ensures.same c.in_ok-begin.ensures.beside keeps.goes_on
          (subst (λ d. IsCommitted d c.in_ok-commit.field-0 c.work.new.arg2.map.now.core c.commit.new.self.0.core) keeps.same_caller c.in_ok-commit.ensures.ok)),
      refl,
      c.in_ok-begin.ensures.began,
      c.in_ok-commit.field-0,
      subst (Commits c.args.caller) (sym left) (subst (λ d. Commits d c.commit.new.self.0) keeps.same_caller c.in_ok-commit.ensures.did),
    )

pub returns-in_err-value-clause-err : goal.returns-in_err-value-clause-err
returns-in_err-value-clause-err g c =
    let keeps = c.requires.keeps _ _ _ c.in_err-value.ensures in
    let left : c.self-1.given.0 ≡ c.drop-open.new.self.0 = search rules in
    on_err c.from_residual-in_err-value.result
    (subst (λ (m : OwnedMap). IsSameMap c.args.caller c.args.self.now.core m.core) (sym left)
    (undone c.args.caller c.args.self.now.core c.begin.new.self.core c.work.new.arg2.map.now.core c.drop-open.new.self.0.core c.in_ok-begin.ensures.ok c.in_ok-begin.ensures.beside keeps.goes_on
    (subst (λ d. IsTakenBack d c.work.new.arg2.map.now.core c.drop-open.new.self.0.core) keeps.same_caller c.drop-open.ensures.back)))

pub returns-in_err-value-clause-cause : goal.returns-in_err-value-clause-cause
returns-in_err-value-clause-cause g c =
    let keeps = c.requires.keeps _ _ _ c.in_err-value.ensures in
    let failed = err_from_is_err_and c.from_residual-in_err-value.result c.from_residual-in_err-value.ensures.1 in
    let left : c.self-1.given.0 ≡ c.drop-open.new.self.0 = search rules in
    let Aborts : ℕ → OwnedMap → Type 0 = λ d m. HasAborted d c.work.new.arg2.map.now.core m.core in
    let aborted = subst (Aborts c.args.caller) (sym left) (subst (λ d. Aborts d c.drop-open.new.self.0) keeps.same_caller c.drop-open.ensures.did) in
    rw (failed.1, failed.2) (inr (inl (_, _, refl, c.in_ok-begin.ensures.began, c.in_err-value.ensures, aborted)))

pub returns-in_err-commit-clause-err : goal.returns-in_err-commit-clause-err
returns-in_err-commit-clause-err g c =
    let keeps = c.requires.keeps _ _ _ c.in_ok-value.ensures in
    let left : c.self-2-1.given.0 ≡ c.commit.new.self.0 = search rules in
    on_err c.from_residual-in_err-commit.result
    (subst (λ (m : OwnedMap). IsSameMap c.args.caller c.args.self.now.core m.core) (sym left)
    (undone c.args.caller c.args.self.now.core c.begin.new.self.core c.work.new.arg2.map.now.core c.commit.new.self.0.core c.in_ok-begin.ensures.ok c.in_ok-begin.ensures.beside keeps.goes_on
    (subst (λ d. IsTakenBack d c.work.new.arg2.map.now.core c.commit.new.self.0.core) keeps.same_caller c.in_err-commit.ensures.err)))

pub returns-in_err-commit-clause-cause : goal.returns-in_err-commit-clause-cause
returns-in_err-commit-clause-cause g c =
    let keeps = c.requires.keeps _ _ _ c.in_ok-value.ensures in
    let failed = err_from_is_err_and c.from_residual-in_err-commit.result c.from_residual-in_err-commit.ensures.1 in
    let left : c.self-2-1.given.0 ≡ c.commit.new.self.0 = search rules in
    let stopped = subst (λ (m : OwnedMap). IsNotCommitted c.args.caller c.work.new.arg2.map.now.core c.in_err-commit.field-0.0 m.core) (sym left)
    (subst (λ d. IsNotCommitted d c.work.new.arg2.map.now.core c.in_err-commit.field-0.0 c.commit.new.self.0.core) keeps.same_caller c.in_err-commit.ensures.stopped) in
    rw (failed.1) (inr (inr (_, _, refl, c.in_ok-begin.ensures.began, _, c.in_ok-value.ensures, _, failed.2, stopped)))
