use Rattle.std.proofs.Common.{◌≡◌, true, refl, sym, subst, ◌∙◌}
use Rattle.std.specs.Prelude.{Result, Ok, Err, OnErr, IfOk}
use Rattle.txn_words.specs.Shape.{is_shaped}
use Rattle.serial_check.proofs.FootprintSteps.{of_entry, values_stay, not_commit}
use Rattle.serial_check.proofs.commits.Commits.take_in.Goals as goal

on_err : {A E P : Type 0} (r : Result A E) → P → OnErr r P
on_err (Ok a) p = tt
on_err (Err e) p = p

if_ok : {A E : Type 0} (P Q : A → Type 0) (r : Result A E) → ((a : A) → P a → Q a) → IfOk r P → IfOk r Q
if_ok P Q (Ok a) to is = to a is
if_ok P Q (Err e) to is = tt

pub returns-in-Committed-clause-ok : goal.returns-in-Committed-clause-ok
returns-in-Committed-clause-ok c = if_ok _ _ c.commit.result (λ right judges h entered keeps shaped.
    of_entry c.in-Committed.is (judges c.args.callers.now c.in-Committed.field-1 h entered keeps (subst (λ e. is_shaped h e ≡ true) c.in-Committed.is shaped))) c.commit.ensures.ok

pub returns-in_err-take_in-clause-err : goal.returns-in_err-take_in-clause-err
returns-in_err-take_in-clause-err c = on_err c.from_residual.result (λ h keeps. record { values = keeps.values; footprints = c.in_err-take_in.ensures.err h keeps.footprints })

pub returns-clause-ok : goal.returns-clause-ok
returns-clause-ok c h entered keeps shaped =
    let other = not_commit h c.args.entry.now c.in_default.not-Committed in
    record {
      right_is = other.1;
      keeps = λ r. record {
        values = values_stay h c.args.entry.now c.args.self.now keeps entered.shape shaped other.0;
        footprints = c.in_ok-take_in.ensures.ok h entered keeps.footprints shaped;
      };
    }
