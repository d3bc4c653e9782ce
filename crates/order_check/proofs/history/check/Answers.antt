use Rattle.std.proofs.Common.{take, subst, sym}
use Rattle.std.proofs.lemmas.List.{take_more, take_all}
use Rattle.order_check.specs.Fed.{IsFed}
use Rattle.order_check.proofs.history.check.Goals as goal

pub loop-entry-preserved : goal.loop-entry-preserved
loop-entry-preserved c =
    subst (λ es. IsFed c.args.options.real_time es c.feed.new.self) (sym (take_more c.args.entries.now c.loop-entry.entry-index _ c.loop-entry-test.true))
    (c.in_ok-feed.ensures.ok c.args.options.real_time (take c.loop-entry.entry-index c.args.entries.now) c.loop-entry.invariant)

pub returns : goal.returns
returns c =
    let fed = subst (λ es. IsFed c.args.options.real_time es c.loop-entry.checker) (take_all c.loop-entry.entry-index c.args.entries.now c.loop-entry-test.false) c.loop-entry.invariant in
    record {
      verdict = c.verdict.ensures.verdict c.args.options.real_time c.args.entries.now fed;
      commits = c.verdict.ensures.commits c.args.options.real_time c.args.entries.now fed;
    }
