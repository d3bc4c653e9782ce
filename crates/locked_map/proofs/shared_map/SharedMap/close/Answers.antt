use Rattle.std.proofs.Common.{◌∙◌, All, refl, sym, subst}
use Rattle.locked_map.proofs.Vocabulary.{false≢true}
use Rattle.locked_map.specs.Tokens.{AreCounted}
use Rattle.locked_map.specs.Closes.{IsAllHere, IsOwn}
use Rattle.locked_map.proofs.shared_map.SharedMap.close.Goals as goal

pub returns-then-is_seen-clause-here : goal.returns-then-is_seen-clause-here
returns-then-is_seen-clause-here g c =
    subst (λ ks. IsAllHere c.args.self.limits.callers ks) c.as_slice.ensures.value (c.has_all.ensures.0 c.if-not-has_all.false)

pub returns-else-is_seen-clause-beside : goal.returns-else-is_seen-clause-beside
returns-else-is_seen-clause-beside g c =
    subst (λ ks. IsAllHere c.args.self.limits.callers ks) c.as_slice.ensures.value (c.has_all.ensures.0 c.if-not-has_all.false)

pub returns-then-is_seen-clause-limits : goal.returns-then-is_seen-clause-limits
returns-then-is_seen-clause-limits g c = (c.into_core-core.ensures.seen.0 c.if-is_seen.true).0

pub returns-then-is_seen-clause-own : goal.returns-then-is_seen-clause-own
returns-then-is_seen-clause-own g c =
    subst (λ ks. All (λ k. IsOwn c.into_core-core.result.0.history k) ks) c.as_mut_slice.ensures.value (c.into_core-core.ensures.seen.0 c.if-is_seen.true).1

pub returns-else-is_seen-clause-why : goal.returns-else-is_seen-clause-why
returns-else-is_seen-clause-why g c = λ all.
    let own = subst (λ ks. All (λ k. IsOwn c.into_core-core.result.0.history k) ks) (sym c.as_mut_slice.ensures.value) all.1 in
    false≢true (sym c.if-is_seen.false ∙ c.into_core-core.ensures.seen.1 (all.0, own))

pub returns-then-not-has_all-clause-why : goal.returns-then-not-has_all-clause-why
returns-then-not-has_all-clause-why g c = λ all.
    false≢true (sym c.if-not-has_all.true ∙ c.has_all.ensures.1 (subst (λ ks. IsAllHere c.args.self.limits.callers ks) (sym c.as_slice.ensures.value) all))

pub returns-then-not-has_all-clause-back : goal.returns-then-not-has_all-clause-back
returns-then-not-has_all-clause-back g c = refl

pub returns-then-not-has_all-clause-beside : goal.returns-then-not-has_all-clause-beside
returns-then-not-has_all-clause-beside g c = refl

pub returns-then-is_seen-clause-legal : goal.returns-then-is_seen-clause-legal
returns-then-is_seen-clause-legal g c = c.into_core-core.ensures.legal

pub returns-then-is_seen-clause-counted : goal.returns-then-is_seen-clause-counted
returns-then-is_seen-clause-counted g c =
    subst (λ ks. AreCounted c.into_core-core.result.0.history ks) c.as_mut_slice.ensures.value c.into_core-core.ensures.counted

pub returns-else-is_seen-clause-counted_too : goal.returns-else-is_seen-clause-counted_too
returns-else-is_seen-clause-counted_too g c =
    subst (λ ks. AreCounted c.into_core-core.result.0.history ks) c.as_mut_slice.ensures.value c.into_core-core.ensures.counted
