use Rattle.std.proofs.Common.{arith, ◌<◌, ◌≤◌, length, sym, subst, take}
use Rattle.std.proofs.lemmas.List.{take_more, take_all}
use Rattle.order_check.specs.Exclusions.{IsNarrowed}
use Rattle.order_check.proofs.Noting.{no_access}
use Rattle.order_check.proofs.SourcesLeft.{narrowed_begin, narrowed_end}
use Rattle.order_check.proofs.exclusion.sources_left.Goals as goal

pub loop-change-init : goal.loop-change-init
loop-change-init c n since accesses are all = narrowed_begin n since accesses c.args.access.now c.first_source-left.result (c.first_source-left.ensures n since accesses are all)

pub loop-change-preserved : goal.loop-change-preserved
loop-change-preserved c n since accesses are all =
    let i = c.loop-change.change-index in
    let below : c.loop-change.change-index < length c.args.changes.now = omega arith in
    subst (λ seen. IsNarrowed n since accesses c.args.access.now seen c.narrow_by-left.result) (sym (take_more c.args.changes.now i no_access below))
    (c.narrow_by-left.ensures n since accesses are all (take i c.args.changes.now) (c.loop-change.invariant n since accesses are all))

pub returns : goal.returns
returns c n since accesses are all =
    let end : length c.args.changes.now ≤ c.loop-change.change-index = omega arith in
    narrowed_end n since accesses c.args.access.now c.args.changes.now c.loop-change.left all
    (subst (λ seen. IsNarrowed n since accesses c.args.access.now seen c.loop-change.left) (take_all c.loop-change.change-index c.args.changes.now end) (c.loop-change.invariant n since accesses are all))
