use Rattle.std.proofs.Common.{◌≡◌, Some, refl, ap, sym, ◌∙◌}
use Rattle.std.specs.Prelude.{nat_eq}
use Rattle.std.specs.Option.{option_eq}
use Rattle.std.proofs.lemmas.Bool.{false≢true}
use Rattle.txn_words.specs.declared.holder.Holder.TheVariants.{Now, Begun}
use Rattle.history_check.proofs.Holding.{busy-begun, busy-held, busy-own}
use Rattle.history_check.proofs.Showing.{busy_followed}
use Rattle.history_check.proofs.live_map.LiveMap.may_name.Goals as goal

pub returns-then-named-caller : goal.returns-then-named-caller
returns-then-named-caller c holder stripes h legal entered shows shaped answered = record {
  locked = busy-own stripes h legal c.args.caller c.args.op c.args.named c.if-named-caller.true;
  shows = λ r. absurd (false≢true r);
}

pub returns-in-Begun : goal.returns-in-Begun
returns-in-Begun c holder stripes h legal entered shows shaped answered =
    let live = c.args.self.now in
    let begun : holder ≡ Begun = sym shows.holder_is ∙ c.in-Begun.is in
    busy_followed stripes h legal live shows c.args.caller c.args.op c.args.named shaped answered c.has_begun.result live
    (busy-begun stripes h legal c.args.caller c.args.op begun c.args.named c.if-named-caller.false ∙ sym (c.has_begun.ensures h entered))
    refl refl shows.values shows.holders

pub returns-in-Some : goal.returns-in-Some
returns-in-Some c holder stripes h legal entered shows shaped answered =
    let live = c.args.self.now in
    let now : holder ≡ Now = sym shows.holder_is ∙ c.in-Now.is in
    busy_followed stripes h legal live shows c.args.caller c.args.op c.args.named shaped answered _ live
    (busy-held stripes h legal live shows c.args.caller c.args.op c.key.result c.key.ensures now c.args.named c.if-named-caller.false ∙ ap (λ o. option_eq nat_eq o (Some c.args.named)) (sym c.holder.ensures ∙ c.in-Some.is))
    refl refl shows.values shows.holders

pub returns-in-None : goal.returns-in-None
returns-in-None c holder stripes h legal entered shows shaped answered =
    let live = c.args.self.now in
    let now : holder ≡ Now = sym shows.holder_is ∙ c.in-Now.is in
    busy_followed stripes h legal live shows c.args.caller c.args.op c.args.named shaped answered _ live
    (busy-held stripes h legal live shows c.args.caller c.args.op c.key.result c.key.ensures now c.args.named c.if-named-caller.false ∙ ap (λ o. option_eq nat_eq o (Some c.args.named)) (sym c.holder.ensures ∙ c.in-None.is))
    refl refl shows.values shows.holders
