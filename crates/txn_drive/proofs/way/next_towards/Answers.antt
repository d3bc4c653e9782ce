use Rattle.std.proofs.Common.{◌≡◌, ◌+◌, ◌-◌, sym, ap, ◌∙◌, arith}
use Rattle.txn_drive.specs.Ways.{child_within}
use Rattle.txn_drive.proofs.WayLemmas.{child_towards-is, child_within-zero, child_within-found, child_within-missed}
use Rattle.txn_drive.proofs.way.next_towards.Goals as goal

pub loop-init : goal.loop-init
loop-init c = sym (child_towards-is c.args.last c.args.target)

pub returns-then-above-last : goal.returns-then-above-last
returns-then-above-last c =
    sym (child_within-found c.loop.counter c.args.last c.loop.bucket (omega arith) (sym c.parent_or_root-above.ensures ∙ c.if-above-last.true)) ∙ c.loop.invariant

pub loop-preserved : goal.loop-preserved
loop-preserved c =
    ap (λ bucket. child_within (32 - (c.loop.counter + 1)) c.args.last bucket) c.parent_or_root-above.ensures
    ∙ sym (child_within-missed c.loop.counter c.args.last c.loop.bucket (omega arith) (λ is. c.if-above-last.false (c.parent_or_root-above.ensures ∙ is)))
    ∙ c.loop.invariant

pub returns : goal.returns
returns c =
    let all : c.loop.counter ≡ 32 = omega arith in
    sym (child_within-zero c.args.last c.loop.bucket) ∙ sym (ap (λ taken. child_within (32 - taken) c.args.last c.loop.bucket) all) ∙ c.loop.invariant
