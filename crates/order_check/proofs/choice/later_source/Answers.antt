use Rattle.std.proofs.Common.{sym, subst}
use Rattle.order_check.specs.Joined.{PlacedAt}
use Rattle.order_check.specs.Tables.{Version, DoesWrite, Knows}
use Rattle.order_check.proofs.choice.later_source.Goals as goal

pub returns-in-Some : goal.returns-in-Some
returns-in-Some c accesses firsts =
    let q : Version = (c.args.access.now.key, c.args.access.now.need) in
    subst (Knows (PlacedAt (DoesWrite q) accesses) (DoesWrite q) accesses) (sym c.in-Some.ensures.value) (firsts q)

pub returns-in-None : goal.returns-in-None
returns-in-None c accesses firsts =
    let q : Version = (c.args.access.now.key, c.args.access.now.need) in
    (c.requires, subst (Knows (PlacedAt (DoesWrite q) accesses) (DoesWrite q) accesses) (sym c.in-None.ensures.value) (firsts q))
