use Rattle.std.proofs.Common.{ℕ, Some, ◌∷◌, ◌∙◌, sym, ap, subst, arith, ◌≡◌, ◌<◌}
use Rattle.atomic_table.specs.Table.{rest}
use Rattle.txn_words.specs.Held.{removed}
use Rattle.txn_words.proofs.Holding.{times_removed_le}
use Rattle.key_words.specs.declared.view.View.{View}
use Rattle.key_words.specs.Steps.{Sat, lost, emptied}
use Rattle.key_words.specs.Rule.{Holds}
use Rattle.key_words.proofs.WordSteps.{brings, frees}
use Rattle.key_words.proofs.words.KeyWords.give.Goals as goal

pub load-requires : goal.load-requires
load-requires c = let k = c.stripe-stripe.result in let seat = c.args.seat.now in
    let has : Holds seat.seat.me.0 k = subst (λ (n : ℕ). Holds seat.seat.me.0 n) (sym c.stripe-stripe.ensures) c.requires.held in
    (c.requires.seat, subst (λ z. k < z.words) c.requires.seat (seat.inside k has), brings _ _ _ _ seat.empty has)

pub store-requires : goal.store-requires
store-requires c = let k = c.stripe-stripe.result in let seat = c.args.seat.now in
    let has : Holds seat.seat.me.0 k = subst (λ (n : ℕ). Holds seat.seat.me.0 n) (sym c.stripe-stripe.ensures) c.requires.held in
    let view : c.exchange.new.seat.me.0 ≡ seat.seat.me.0 = ap (λ (m : Sat). m.0) c.exchange.ensures.3 ∙ ap (λ (m : Sat). m.0) c.load.ensures.2 in
    let slots = ap (λ (m : Sat). m.1) c.exchange.ensures.3 in
    let more = rest c.load.new.seat.me.1 in (
      c.exchange.ensures.0 ∙ c.load.ensures.0 ∙ c.requires.seat,
      subst (λ z. k < z.words) c.requires.seat (seat.inside k has),
      frees _ _ _ _ more (slots ∙ ap (λ (r : ℕ). (k, Some r) ∷ more) (sym c.stripe-stripe.ensures)) (subst (λ (v : View). Holds v k) (sym view) has),
    )

pub invariant_of-seat : goal.invariant_of-seat
invariant_of-seat c = let k = c.stripe-stripe.result in let seat = c.args.seat.now in let new = c.store.new.seat in
    let last : new.me ≡ (lost c.exchange.new.seat.me.0 k, rest c.exchange.new.seat.me.1) = c.store.ensures.2 in
    let put = c.exchange.ensures.3 in let first = c.load.ensures.2 in
    let view : c.exchange.new.seat.me.0 ≡ seat.seat.me.0 = ap (λ (m : Sat). m.0) put ∙ ap (λ (m : Sat). m.0) first in
    let now : new.me.0 ≡ lost seat.seat.me.0 k = ap (λ (m : Sat). m.0) last ∙ ap (λ (v : View). lost v k) view in
    let slots : new.me.1 ≡ emptied (removed k seat.seat.me.0.held) = ap (λ (m : Sat). m.1) last ∙ ap (λ (m : Sat). rest m.1) put ∙ ap (λ (m : Sat). rest m.1) first in
    let table = c.store.ensures.0 ∙ c.exchange.ensures.0 ∙ c.load.ensures.0 in
    record {
      inside = λ s h. let less = times_removed_le k s seat.seat.me.0.held in
          let h' : Holds (lost seat.seat.me.0 k) s = subst (λ (v : View). Holds v s) now h in
          subst (λ z. s < z.words) (sym table) (seat.inside s (omega arith));
      low = seat.low;
      numbered = ap (λ (v : View). v.number) now ∙ seat.numbered;
      empty = slots ∙ ap (λ (v : View). emptied v.held) (sym now);
    }
