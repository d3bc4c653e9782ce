use Rattle.std.proofs.Common.{◌≡◌, ◌<◌, drop, true, [], ◌∷◌, ◌++◌, refl, sym, subst, ◌∙◌}
use Rattle.std.specs.Prelude.{Result, Ok, Err, OnErr}
use Rattle.txn_words.specs.declared.entry.Entry.TheVariants.{Did, Undone, Committed, Aborted}
use Rattle.txn_words.specs.Kinds.{caller_of}
use Rattle.txn_trace.specs.Log.{log_of}
use Rattle.txn_words.specs.Shape.{is_shaped}
use Rattle.txn_words.specs.declared.stance.Phase.TheVariants.{Waiting}
use Rattle.history_check.specs.Callers.{IsIn}
use Rattle.history_check.proofs.CallerTable.{first_then, undone_newest}
use mathlib.Core.Logic.{inl, inr}
use Rattle.serial_check.proofs.Growth.{foot_at, kept, kept_same}
use Rattle.serial_check.proofs.FootprintSteps.{did_foot, undone_foot, have_still, have_entry}
use Rattle.serial_check.proofs.footprints.Footprints.take_in.Goals as goal

on_err : {A E P : Type 0} (r : Result A E) → P → OnErr r P
on_err (Ok a) p = tt
on_err (Err e) p = p

pub returns-in_err-answer-in-Did-clause-err : goal.returns-in_err-answer-in-Did-clause-err
returns-in_err-answer-in-Did-clause-err c =
    let below = subst (λ e. caller_of e < 64) c.in-Did.is c.requires in
    on_err c.from_residual.result (kept_same c.args.self.now _ c.in-Did.caller c.index_mut.result.now c.answer.new.self (λ h have. foot_at h c.args.self.now c.in-Did.caller c.index_mut.result.now have below c.index_mut.ensures.value)
    c.in_err-answer-in-Did.ensures.err refl)

pub returns-in_ok-answer-in-Did-clause-ok : goal.returns-in_ok-answer-in-Did-clause-ok
returns-in_ok-answer-in-Did-clause-ok c h entered have shaped =
    let old = c.args.self.now in
    let e = Did c.in-Did.caller c.in-Did.reply in
    let below = subst (λ e. caller_of e < 64) c.in-Did.is c.requires in
    let shaped_e = subst (λ e. is_shaped h e ≡ true) c.in-Did.is shaped in
    let there = c.phase.ensures h entered in
    let waits : IsIn h c.in-Did.caller (Waiting c.in-Waiting.op) = record { stance = there.stance; stance_is = there.stance_is; phase_is = there.phase_is ∙ c.in-Waiting.is } in
    let is = foot_at h old c.in-Did.caller c.index_mut.result.now have below c.index_mut.ensures.value in
    have_entry h _ _ c.in-Did.is
    (kept h e old _ c.answer.new.self have entered.shape shaped_e
    (did_foot h c.in-Did.caller c.in-Waiting.op c.in-Did.reply c.index_mut.result.now c.answer.new.self entered.shape is shaped_e waits c.in_ok-answer-in-Did.ensures.ok)
    refl)

pub returns-in-Some-clause-ok : goal.returns-in-Some-clause-ok
returns-in-Some-clause-ok c h entered have shaped =
    let old = c.args.self.now in
    let e = Undone c.in-Undone.caller in
    let below = subst (λ e. caller_of e < 64) c.in-Undone.is c.requires in
    let shaped_e = subst (λ e. is_shaped h e ≡ true) c.in-Undone.is shaped in
    let log = log_of c.in-Undone.caller h in
    let log_is = first_then log (c.in-Some.key, c.in-Some.before) (sym (c.newest_change.ensures h entered) ∙ c.in-Some.is) in
    let is = foot_at h old c.in-Undone.caller c.index_mut-in-Some.result.now have below c.index_mut-in-Some.ensures.value in
    have_entry h _ _ c.in-Undone.is
    (kept h e old _ c.put_back.new.self have entered.shape shaped_e
    (undone_foot h c.in-Undone.caller (c.in-Some.key, c.in-Some.before) (drop 1 log) c.index_mut-in-Some.result.now c.put_back.new.self entered.shape is shaped_e log_is c.put_back.ensures)
    refl)

pub returns-in_default-newest_change-clause-ok : goal.returns-in_default-newest_change-clause-ok
returns-in_default-newest_change-clause-ok c h entered have shaped =
    absurd (undone_newest h c.in-Undone.caller (subst (λ e. is_shaped h e ≡ true) c.in-Undone.is shaped) (sym (c.newest_change.ensures h entered) ∙ c.in_default-newest_change.is))

pub returns-in-Committed-clause-ok : goal.returns-in-Committed-clause-ok
returns-in-Committed-clause-ok c h entered have shaped =
    have_entry h _ _ c.in-Committed.is
    (c.end.ensures h (Committed c.in-Committed.caller c.in-Committed.field-1) refl (inl refl) entered.shape have (subst (λ e. is_shaped h e ≡ true) c.in-Committed.is shaped))

pub returns-in-Aborted-clause-ok : goal.returns-in-Aborted-clause-ok
returns-in-Aborted-clause-ok c h entered have shaped =
    have_entry h _ _ c.in-Aborted.is
    (c.end-in-Aborted.ensures h (Aborted c.in-Aborted.caller) refl (inr refl) entered.shape have (subst (λ e. is_shaped h e ≡ true) c.in-Aborted.is shaped))

pub returns-in_default-clause-ok : goal.returns-in_default-clause-ok
returns-in_default-clause-ok c h entered have shaped =
    have_still h c.args.entry.now c.args.self.now have entered.shape shaped c.in_default.not-Did c.in_default.not-Undone c.in_default.not-Committed c.in_default.not-Aborted
