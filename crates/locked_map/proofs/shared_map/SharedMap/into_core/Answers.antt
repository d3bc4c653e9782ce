use Rattle.std.proofs.Common.{◌≡◌, ◌↔◌, Bool, All, IsTrue, List, sym, subst}
use Rattle.locked_map.specs.Vocabulary.{IsLegal, Sizes, State}
use Rattle.txn_words.specs.declared.holder.Holder.TheVariants.{Begun}
use Rattle.locked_map.specs.Closes.{IsOwn}
use Rattle.locked_map.specs.Tokens.{Token}
use Rattle.locked_map.proofs.shared_map.SharedMap.into_core.Goals as goal

seen_at : {S : Type 0} (b : Bool) (m n : State) (lim sizes : Sizes) (ks : List (Token S)) → n ≡ m → lim ≡ sizes → (IsTrue b ↔ ((m.limits ≡ lim) × All (λ k. IsOwn m.history k) ks)) → IsTrue b ↔ ((n.limits ≡ sizes) × All (λ k. IsOwn n.history k) ks)
seen_at b m n lim sizes ks same limits seen =
    subst (λ (s : State). IsTrue b ↔ ((s.limits ≡ sizes) × All (λ k. IsOwn s.history k) ks)) (sym same)
    (subst (λ (z : Sizes). IsTrue b ↔ ((m.limits ≡ z) × All (λ k. IsOwn m.history k) ks)) limits seen)

pub returns-clause-seen : goal.returns-clause-seen
returns-clause-seen g c = seen_at c.is_seen-is_seen.result c.into_booked-booked.result.core c.into_core.result c.limits-limits.result c.args.self.limits c.args.callers.now c.into_core.ensures.core c.limits-limits.ensures c.is_seen-is_seen.ensures

pub returns-clause-legal : goal.returns-clause-legal
returns-clause-legal g c = subst (λ (s : State). IsLegal Begun s.limits.stripes s.history) (sym c.into_core.ensures.core) c.into_booked-booked.ensures.legal
