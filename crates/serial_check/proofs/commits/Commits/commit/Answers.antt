use Rattle.std.proofs.Common.{refl, sym, ◌∙◌}
use Rattle.std.specs.Prelude.{Result, Ok, Err, OnErr}
use Rattle.std.proofs.lemmas.Bool.{false≢true}
use mathlib.Core.Logic.{inl}
use Rattle.txn_words.specs.declared.entry.Entry.TheVariants.{Committed}
use Rattle.serial_check.proofs.FootprintSteps.{commit_right, commit_wrong, commit_leaves}
use Rattle.serial_check.proofs.commits.Commits.commit.Goals as goal

on_err : {A E P : Type 0} (r : Result A E) → P → OnErr r P
on_err (Ok a) p = tt
on_err (Err e) p = p

pub returns-then-not-fits-clause-ok : goal.returns-then-not-fits-clause-ok
returns-then-not-fits-clause-ok c callers number h entered keeps shaped =
    let foot = c.of_caller-footprint.result.now in
    let is = c.of_caller-footprint.ensures h keeps.footprints in
    record {
      right_is = commit_wrong h entered.shape c.args.self.now keeps c.args.caller number foot is shaped (λ fits. false≢true (sym c.if-not-fits.true ∙ c.fits.ensures.1 fits));
      keeps = λ r. absurd (false≢true r);
    }

pub returns-in_err-settle-clause-err : goal.returns-in_err-settle-clause-err
returns-in_err-settle-clause-err c = on_err c.from_residual.result (λ h keeps. record { values = λ k. c.in_err-settle.ensures.err k ∙ keeps.values k; footprints = keeps.footprints })

pub returns-clause-ok : goal.returns-clause-ok
returns-clause-ok c callers number h entered keeps shaped =
    let old = c.args.self.now in
    let e = Committed c.args.caller number in
    let foot = c.of_caller-footprint.result.now in
    let is = c.of_caller-footprint.ensures h keeps.footprints in
    let fits = c.fits.ensures.0 c.if-not-fits.false in
    record {
      right_is = commit_right h entered.shape old keeps c.args.caller number foot is shaped fits;
      keeps = λ r. record {
        values = commit_leaves h entered.shape old keeps c.args.caller number foot is shaped c.settle.new.values fits c.in_ok-settle.ensures.ok;
        footprints = c.end.ensures h e refl (inl refl) entered.shape keeps.footprints shaped;
      };
    }
