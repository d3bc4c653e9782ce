use Rattle.std.proofs.Common.{take, subst, sym, ◌∙◌, ◌++◌, ◌∷◌, []}
use Rattle.std.proofs.lemmas.List.{take_more, take_all}
use Rattle.order_check.specs.Fed.{IsFed}
use Rattle.judge_engine.proofs.order.fed_checker.Goals as goal

pub loop-entry-preserved : goal.loop-entry-preserved
loop-entry-preserved c =
    subst (λ es. IsFed c.args.real_time es c.feed.new.self) (sym (take_more c.args.entries.now c.loop-entry.entry-index _ c.loop-entry-test.true))
    (subst (λ e. IsFed c.args.real_time (take c.loop-entry.entry-index c.args.entries.now ++ e ∷ []) c.feed.new.self) (c.entry.ensures ∙ c.entry-item.is)
    (c.in_ok-feed.ensures.ok c.args.real_time (take c.loop-entry.entry-index c.args.entries.now) c.loop-entry.invariant))

pub returns : goal.returns
returns c = subst (λ es. IsFed c.args.real_time es c.loop-entry.checker) (take_all c.loop-entry.entry-index c.args.entries.now c.loop-entry-test.false) c.loop-entry.invariant
