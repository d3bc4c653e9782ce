use Rattle.std.proofs.Common.{subst}
use Rattle.order_check.specs.Exclusions.{StaysBeside}
use Rattle.order_check.proofs.exclusion.learn_of.Goals as goal

pub returns-in-Some : goal.returns-in-Some
returns-in-Some c n since accesses were beside =
    c.learn_beside.ensures n since accesses were (subst (λ s. StaysBeside n since accesses s c.args.txn c.args.reader) c.in-Some.is beside)

pub returns-in-None : goal.returns-in-None
returns-in-None c n since accesses were beside =
    c.learn.ensures n since accesses were (λ ts order. (subst (λ s. StaysBeside n since accesses s c.args.txn c.args.reader) c.in-None.is beside) ts order c.if-txn-reader.false)
