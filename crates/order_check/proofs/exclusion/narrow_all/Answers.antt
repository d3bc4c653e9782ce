use Rattle.std.proofs.Common.{arith, ◌<◌, length, get_or, refl, sym, subst}
use Rattle.order_check.specs.Exclusions.{AreChanges}
use Rattle.order_check.proofs.Noting.{no_access}
use Rattle.order_check.proofs.Turning.{among_at}
use Rattle.order_check.proofs.exclusion.narrow_all.Goals as goal

pub loop-access-preserved : goal.loop-access-preserved
loop-access-preserved c n since plain were =
    let all = c.args.accesses.now in
    let x = get_or all c.loop-access.access-index no_access in
    let below : c.loop-access.access-index < length c.args.accesses.now = omega arith in
    c.narrow.ensures.known n since all plain (c.loop-access.invariant n since plain were) (subst (AreChanges all x.key) (sym c.deref.ensures.value) c.in_ok-changes.ensures) (among_at all c.loop-access.access-index no_access below)

pub returns-then-not-narrow-clause-known : goal.returns-then-not-narrow-clause-known
returns-then-not-narrow-clause-known c n since plain were =
    let all = c.args.accesses.now in
    let x = get_or all c.loop-access.access-index no_access in
    let below : c.loop-access.access-index < length c.args.accesses.now = omega arith in
    c.narrow.ensures.known n since all plain (c.loop-access.invariant n since plain were) (subst (AreChanges all x.key) (sym c.deref.ensures.value) c.in_ok-changes.ensures) (among_at all c.loop-access.access-index no_access below)

pub returns-then-not-narrow-clause-found : goal.returns-then-not-narrow-clause-found
returns-then-not-narrow-clause-found c n since plain were =
    let all = c.args.accesses.now in
    let x = get_or all c.loop-access.access-index no_access in
    let below : c.loop-access.access-index < length c.args.accesses.now = omega arith in
    let is_in = among_at all c.loop-access.access-index no_access below in (
      record { by = x; is_among = is_in; txn_is = refl; key_is = refl; need_is = refl },
      c.if-not-narrow.ensures.none refl n since all plain (c.loop-access.invariant n since plain were) (subst (AreChanges all x.key) (sym c.deref.ensures.value) c.in_ok-changes.ensures) is_in,
    )
