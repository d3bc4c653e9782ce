use Rattle.std.proofs.Common.{◌≡◌, ◌++◌, ◌∷◌, [], true, ap, sym, subst, ◌∙◌}
use Rattle.std.specs.Prelude.{nat_eq}
use Rattle.std.specs.Option.{option_eq}
use Rattle.txn_words.specs.Shape.{is_shaped}
use Rattle.txn_trace.specs.Legal.{replies_hold}
use Rattle.txn_words.specs.Map.{get}
use Rattle.txn_trace.specs.Now.{now}
use Rattle.history_check.proofs.EntryKinds.{did_right}
use Rattle.history_check.proofs.Judged.{answered_other}
use Rattle.history_check.proofs.live_map.LiveMap.is_answered.Goals as goal

pub returns-in_default : goal.returns-in_default
returns-in_default c holder stripes h legal entered shows shaped = answered_other stripes h legal c.args.entry.now shaped (λ a b is. c.in_default.not-Did a b is)

pub returns-in-Waiting : goal.returns-in-Waiting
returns-in-Waiting c holder stripes h legal entered shows shaped =
    let there = c.phase.ensures h entered in
    let found = c.get.ensures (now h) shows.values ∙ ap (get (now h)) c.key.ensures in
    c.eq.ensures ∙ ap (option_eq nat_eq c.in-Did.reply) found
    ∙ sym (did_right stripes h legal c.in-Did.caller there.stance there.stance_is c.in-Waiting.op c.in-Did.reply (there.phase_is ∙ c.in-Waiting.is) (subst (λ e. is_shaped h e ≡ true) c.in-Did.is shaped))
    ∙ ap (λ e. replies_hold (h ++ e ∷ [])) (sym c.in-Did.is)
