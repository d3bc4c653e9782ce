use Rattle.std.proofs.Common.{subst}
use Rattle.order_check.specs.Exclusions.{HasOnly}
use Rattle.order_check.proofs.SourcesLeft.{none_left, one_left}
use Rattle.order_check.proofs.exclusion.narrow.Goals as goal

pub returns-in-Nobody-clause-none : goal.returns-in-Nobody-clause-none
returns-in-Nobody-clause-none c none n since accesses plain were all is_in =
    none_left n since accesses plain c.args.access.now is_in (subst (HasOnly n since accesses c.args.access.now) c.in-Nobody.is (c.sources_left.ensures n since accesses were all))

pub returns-in-Only-clause-known : goal.returns-in-Only-clause-known
returns-in-Only-clause-known c n since accesses plain were all is_in =
    c.learn_by.ensures n since accesses were all
    (one_left n since accesses plain c.args.access.now is_in c.in-Only.source (subst (HasOnly n since accesses c.args.access.now) c.in-Only.is (c.sources_left.ensures n since accesses were all)))
