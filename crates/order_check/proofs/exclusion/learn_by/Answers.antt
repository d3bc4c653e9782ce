use Rattle.std.proofs.Common.{arith, ◌<◌, length, get_or}
use Rattle.order_check.proofs.Noting.{no_access}
use Rattle.order_check.proofs.Turning.{among_at}
use Rattle.order_check.proofs.SourcesLeft.{source_first, none_between}
use Rattle.order_check.proofs.exclusion.learn_by.Goals as goal

pub loop-change-init : goal.loop-change-init
loop-change-init c n since accesses were all certain = c.learn_source.ensures n since accesses were (source_first n since accesses c.args.access.now c.args.source certain)

pub loop-change-preserved : goal.loop-change-preserved
loop-change-preserved c n since accesses were all certain =
    let x = get_or c.args.changes.now c.loop-change.change-index no_access in
    let below : c.loop-change.change-index < length c.args.changes.now = omega arith in
    let o = all.only x (among_at c.args.changes.now c.loop-change.change-index no_access below) in
    c.learn_of.ensures n since accesses (c.loop-change.invariant n since accesses were all certain) (none_between n since accesses c.args.access.now c.args.source x certain o.0 o.1)
