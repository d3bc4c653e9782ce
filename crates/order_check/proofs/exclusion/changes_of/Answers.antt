use Rattle.std.proofs.Common.{arith, ◌+◌, ◌<◌, length, sym, subst, ◌∙◌, take}
use Rattle.order_check.specs.Exclusions.{AreChanges}
use Rattle.order_check.proofs.Noting.{no_access}
use Rattle.order_check.proofs.SourcesLeft.{changes_more, changes_same}
use Rattle.order_check.proofs.exclusion.changes_of.Goals as goal
use Rattle.order_check.proofs.exclusion.changes_of.Goals.{then-is_change+in_ok-push, else-is_change}

pub loop-access-preserved : goal.loop-access-preserved
loop-access-preserved c =
    let all = c.args.accesses.now in
    let i = c.loop-access.access-index in
    let below : c.loop-access.access-index < length c.args.accesses.now = omega arith in
    elim c.if-is_change.branch [
      | then-is_change+in_ok-push w ↦
          subst (λ changes. AreChanges (take (i + 1) all) c.args.key changes.items) (sym w.changes-is)
          (changes_more all i no_access c.args.key c.loop-access.changes.items w.push.new.self.items below c.loop-access.invariant (sym c.is_change.ensures ∙ w.if-is_change.true) w.in_ok-push.ensures.items)
      | else-is_change w ↦
          subst (λ changes. AreChanges (take (i + 1) all) c.args.key changes.items) (sym w.changes-is)
          (changes_same all i no_access c.args.key c.loop-access.changes.items below c.loop-access.invariant (sym c.is_change.ensures ∙ w.if-is_change.false))
    ]
