use Rattle.std.proofs.Common.{ap, sym, subst, ◌∙◌, not}
use Rattle.std.proofs.lemmas.Bool.{false≢true}
use Rattle.txn_trace.proofs.Now.{same_is}
use Rattle.order_check.specs.Exclusions.{IsNarrowed}
use Rattle.order_check.proofs.SourcesLeft.{narrowed_same, narrowed_only, narrowed_several}
use Rattle.order_check.proofs.exclusion.narrow_by.Goals as goal

pub returns-then-ne : goal.returns-then-ne
returns-then-ne c n since accesses are all seen was =
    narrowed_same n since accesses c.args.access.now seen c.args.change.now c.args.left was
    (λ same. absurd (false≢true (sym (ap not (same_is c.args.change.now.left c.args.access.now.need same)) ∙ sym c.ne.ensures ∙ c.if-ne.true)))

pub returns-then-is_excluded : goal.returns-then-is_excluded
returns-then-is_excluded c n since accesses are all seen was =
    narrowed_same n since accesses c.args.access.now seen c.args.change.now c.args.left was (λ same. c.is_excluded.ensures c.if-is_excluded.true n since accesses are all)

pub returns-in-Nobody : goal.returns-in-Nobody
returns-in-Nobody c n since accesses are all seen was =
    narrowed_only n since accesses c.args.access.now seen c.args.change.now (subst (IsNarrowed n since accesses c.args.access.now seen) c.in-Nobody.is was)

pub returns-in-Only : goal.returns-in-Only
returns-in-Only c n since accesses are all seen was = narrowed_several n since accesses c.args.access.now seen c.args.change.now c.args.left was

pub returns-in-Several : goal.returns-in-Several
returns-in-Several c n since accesses are all seen was = narrowed_several n since accesses c.args.access.now seen c.args.change.now c.args.left was
