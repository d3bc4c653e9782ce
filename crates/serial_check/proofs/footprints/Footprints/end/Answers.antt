use Rattle.std.proofs.Common.{◌≡◌, true, false, ◌||◌, refl, ap, sym, subst, ◌∙◌}
use mathlib.Core.Logic.{inl, inr}
use Rattle.txn_words.specs.Kinds.{is_commit, is_abort}
use Rattle.txn_trace.proofs.Callers.{is_end}
use Rattle.std.proofs.Math.ListN.{set}
use Rattle.serial_check.proofs.Growth.{kept, ended_foot}
use Rattle.serial_check.proofs.footprints.Footprints.end.Goals as goal

or_right : (a : Rattle.std.specs.Prelude.Bool) → (a || true) ≡ true
or_right true = refl
or_right false = refl

pub returns : goal.returns
returns c h e caller_is ends shape have shaped =
    let end : is_end e ≡ true = elim ends [
      | inl commit ↦ ap (λ b. b || is_abort e) commit
      | inr abort ↦ ap (λ b. is_commit e || b) abort ∙ or_right (is_commit e)
    ] in
    kept h e c.args.self.now _ c.clear.new.self have shape shaped (ended_foot h e c.clear.new.self shape shaped end c.clear.ensures) (ap (λ d. set c.args.self.now.table.items d c.clear.new.self) (sym caller_is))
