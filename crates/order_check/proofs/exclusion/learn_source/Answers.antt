use Rattle.std.proofs.Common.{subst}
use Rattle.order_check.specs.Exclusions.{ComesFirst}
use Rattle.order_check.proofs.exclusion.learn_source.Goals as goal

pub returns-in-Some : goal.returns-in-Some
returns-in-Some c n since accesses were first =
    c.learn.ensures n since accesses were (subst (λ s. ComesFirst n since accesses s c.args.reader) c.in-Some.is first)
