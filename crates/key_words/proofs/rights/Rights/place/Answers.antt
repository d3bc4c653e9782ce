use Rattle.std.proofs.Common.{sym, ap, ◌∙◌, arith, ◌≡◌, ℕ, List, get_or, reverse, ◌<◌}
use Rattle.txn_words.specs.Held.{times}
use Rattle.txn_words.proofs.Holding.{times_reverse}
use Rattle.key_words.proofs.RightLemmas.{held, unheld}
use Rattle.key_words.proofs.rights.Rights.place.Goals as goal

pub returns-clause-none : goal.returns-clause-none
returns-clause-none c = λ h. let s = c.args.stripe in let token = c.args.self.now in let xs : List ℕ = c.deref-right-items.result.now in
    let here : times s xs ≡ 0 = unheld s xs (λ k lt. c.loop-place.invariant k (omega arith)) in
    let same : times s token.seat.seat.me.0.held ≡ times s xs = ap (times s) (token.kept ∙ ap (λ (l : List ℕ). reverse l) (sym c.deref-right-items.ensures.value)) ∙ times_reverse s xs in
    let h' : 0 < times s token.seat.seat.me.0.held = h in omega arith

pub returns-then-stripe-clause-held : goal.returns-then-stripe-clause-held
returns-then-stripe-clause-held c = let s = c.args.stripe in let token = c.args.self.now in let xs : List ℕ = c.deref-right-items.result.now in
    let d = c.right-item.result in
    let at : get_or xs c.loop-place.place d ≡ s = sym c.right-item.is ∙ (sym c.stripe.ensures ∙ c.if-stripe.true) in
    let here : 0 < times s xs = held s xs c.loop-place.place d c.loop-place-test.true at in
    let same : times s token.seat.seat.me.0.held ≡ times s xs = ap (times s) (token.kept ∙ ap (λ (l : List ℕ). reverse l) (sym c.deref-right-items.ensures.value)) ∙ times_reverse s xs in
    omega (arith, here, same)
