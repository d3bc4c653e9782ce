use Rattle.std.proofs.Common.{◌≡◌, ◌++◌, ◌∷◌, [], drop, true, refl, sym, subst, ◌∙◌}
use Rattle.txn_words.specs.declared.entry.Entry.TheVariants.{Did, Undone, Committed, Aborted}
use Rattle.txn_words.specs.declared.stance.Phase.TheVariants.{Waiting}
use Rattle.txn_trace.specs.Legal.{replies_hold}
use Rattle.txn_trace.specs.Log.{log_of}
use Rattle.txn_trace.specs.Now.{now}
use Rattle.txn_words.specs.Shape.{is_shaped}
use Rattle.history_check.specs.LiveMaps.{FollowsAt}
use Rattle.history_check.proofs.EntryKinds.{next-did, next-undone, next-committed, next-aborted}
use Rattle.history_check.proofs.Holding.{released}
use Rattle.history_check.proofs.CallerTable.{stance_there, first_then, undone_newest}
use Rattle.history_check.proofs.Showing.{fine, followed, followed_still, of_entry}
use Rattle.history_check.proofs.live_map.LiveMap.follow.Goals as goal

pub returns-in-Asked-clause-ok : goal.returns-in-Asked-clause-ok
returns-in-Asked-clause-ok c holder stripes h legal entered shows shaped answered =
    subst (λ e. FollowsAt holder stripes h e c.ask.result c.ask.new.self) (sym c.in-Asked.is)
    (c.ask.ensures c.args.callers.now holder stripes h legal entered shows (subst (λ e. is_shaped h e ≡ true) c.in-Asked.is shaped) (subst (λ e. replies_hold (h ++ e ∷ []) ≡ true) c.in-Asked.is answered))

pub returns-in-Busy-clause-ok : goal.returns-in-Busy-clause-ok
returns-in-Busy-clause-ok c holder stripes h legal entered shows shaped answered =
    subst (λ e. FollowsAt holder stripes h e c.may_name.result c.args.self.now) (sym c.in-Busy.is)
    (c.may_name.ensures holder stripes h legal entered shows (subst (λ e. is_shaped h e ≡ true) c.in-Busy.is shaped) (subst (λ e. replies_hold (h ++ e ∷ []) ≡ true) c.in-Busy.is answered))

pub returns-in_ok-operate-in-Did-clause-ok : goal.returns-in_ok-operate-in-Did-clause-ok
returns-in_ok-operate-in-Did-clause-ok c holder stripes h legal entered shows shaped answered =
    let live = c.args.self.now in
    let e = Did c.in-Did.caller c.in-Did.field-1 in
    let shaped_e = subst (λ e. is_shaped h e ≡ true) c.in-Did.is shaped in
    let answered_e = subst (λ e. replies_hold (h ++ e ∷ []) ≡ true) c.in-Did.is answered in
    let there = c.phase.ensures h entered in
    let waits : there.stance.phase ≡ Waiting c.in-Waiting.op = there.phase_is ∙ c.in-Waiting.is in
    of_entry c.in-Did.is
    (followed stripes h legal live shows e shaped_e answered_e _ _ _ _ _ _ refl
    (next-did stripes h legal c.in-Did.caller there.stance there.stance_is c.in-Waiting.op c.in-Did.field-1 waits (fine stripes h legal live shows e shaped_e answered_e refl))
    refl refl (c.in_ok-operate-in-Did.ensures.ok (now h) shows.values) shows.holders)

pub returns-in_ok-restore-in-Undone-clause-ok : goal.returns-in_ok-restore-in-Undone-clause-ok
returns-in_ok-restore-in-Undone-clause-ok c holder stripes h legal entered shows shaped answered =
    let live = c.args.self.now in
    let e = Undone c.in-Undone.caller in
    let shaped_e = subst (λ e. is_shaped h e ≡ true) c.in-Undone.is shaped in
    let answered_e = subst (λ e. replies_hold (h ++ e ∷ []) ≡ true) c.in-Undone.is answered in
    let stance = stance_there h e shaped_e in
    let log = log_of c.in-Undone.caller h in
    let log_is = first_then log (c.in-Some.key, c.in-Some.before) (sym (c.newest_change.ensures h entered) ∙ c.in-Some.is) in
    of_entry c.in-Undone.is
    (followed stripes h legal live shows e shaped_e answered_e _ _ _ _ _ _ refl
    (next-undone stripes h legal c.in-Undone.caller stance.0 stance.1 (c.in-Some.key, c.in-Some.before) (drop 1 log) log_is (fine stripes h legal live shows e shaped_e answered_e refl))
    refl refl (c.in_ok-restore-in-Undone.ensures.ok (now h) shows.values) shows.holders)

pub returns-in_default-newest_change-clause-ok : goal.returns-in_default-newest_change-clause-ok
returns-in_default-newest_change-clause-ok c holder stripes h legal entered shows shaped answered =
    absurd (undone_newest h c.in-Undone.caller (subst (λ e. is_shaped h e ≡ true) c.in-Undone.is shaped) (sym (c.newest_change.ensures h entered) ∙ c.in_default-newest_change.is))

pub returns-in-Committed-clause-ok : goal.returns-in-Committed-clause-ok
returns-in-Committed-clause-ok c holder stripes h legal entered shows shaped answered =
    let live = c.args.self.now in
    let e = Committed c.in-Committed.caller c.in-Committed.field-1 in
    let shaped_e = subst (λ e. is_shaped h e ≡ true) c.in-Committed.is shaped in
    let answered_e = subst (λ e. replies_hold (h ++ e ∷ []) ≡ true) c.in-Committed.is answered in
    let stance = stance_there h e shaped_e in
    of_entry c.in-Committed.is
    (followed stripes h legal live shows e shaped_e answered_e _ _ _ _ _ _ refl
    (next-committed stripes h legal c.in-Committed.caller stance.0 stance.1 c.in-Committed.field-1 (fine stripes h legal live shows e shaped_e answered_e refl))
    refl refl shows.values (released stripes h legal live shows c.in-Committed.caller c.release_all.new.self c.release_all.ensures))

pub returns-in-Aborted-clause-ok : goal.returns-in-Aborted-clause-ok
returns-in-Aborted-clause-ok c holder stripes h legal entered shows shaped answered =
    let live = c.args.self.now in
    let e = Aborted c.in-Aborted.caller in
    let shaped_e = subst (λ e. is_shaped h e ≡ true) c.in-Aborted.is shaped in
    let answered_e = subst (λ e. replies_hold (h ++ e ∷ []) ≡ true) c.in-Aborted.is answered in
    let stance = stance_there h e shaped_e in
    of_entry c.in-Aborted.is
    (followed stripes h legal live shows e shaped_e answered_e _ _ _ _ _ _ refl
    (next-aborted stripes h legal c.in-Aborted.caller stance.0 stance.1 (fine stripes h legal live shows e shaped_e answered_e refl))
    refl refl shows.values (released stripes h legal live shows c.in-Aborted.caller c.release_all-in-Aborted.new.self c.release_all-in-Aborted.ensures))

pub returns-in_default-clause-ok : goal.returns-in_default-clause-ok
returns-in_default-clause-ok c holder stripes h legal entered shows shaped answered =
    followed_still stripes h legal c.args.self.now shows c.args.entry.now shaped answered
    c.in_default.not-Asked c.in_default.not-Busy c.in_default.not-Did c.in_default.not-Undone c.in_default.not-Committed c.in_default.not-Aborted
