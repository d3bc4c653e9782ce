use Rattle.std.proofs.Common.{arith, ◌<◌, length, sym, ◌∙◌, get_or}
use Rattle.order_check.proofs.Noting.{no_access}
use Rattle.order_check.proofs.Turning.{among_at}
use Rattle.order_check.proofs.SourcesLeft.{too_late, overwritten}
use Rattle.order_check.proofs.exclusion.is_excluded.Goals as goal

pub returns-then-is_late : goal.returns-then-is_late
returns-then-is_late c holds n since accesses are all = too_late n since accesses c.args.access.now c.args.known.now are c.args.source (sym c.is_late.ensures ∙ c.if-is_late.true)

pub returns-then-is_between : goal.returns-then-is_between
returns-then-is_between c holds n since accesses are all =
    let x = get_or c.args.changes.now c.loop-change.change-index no_access in
    let below : c.loop-change.change-index < length c.args.changes.now = omega arith in
    let o = all.only x (among_at c.args.changes.now c.loop-change.change-index no_access below) in
    overwritten n since accesses c.args.access.now c.args.known.now are c.args.source x o.0 o.1 (sym c.is_between.ensures ∙ c.if-is_between.true)
