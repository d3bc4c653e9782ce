-- Whether a stripe occurs in a list of rights, given the positions of the rights.
use Rattle.std.proofs.Common.{◌≡◌, ℕ, zero, suc, ◌<◌, List, [], ◌∷◌, length, get_or, sym, refl, ◌∙◌, subst, arith}
use Rattle.txn_words.specs.Held.{times}
use Rattle.txn_words.proofs.Holding.{times_same, times_other}

pub unheld : (s : ℕ) (xs : List ℕ) → ((k : ℕ) → k < length xs → get_or xs k 0 ≡ s → ⊥) → times s xs ≡ 0
unheld s [] none = refl
unheld s (x ∷ xs) none = times_other s x xs (none 0 (omega arith)) ∙ unheld s xs (λ k lt. none (suc k) (omega arith))

pub held : (s : ℕ) (xs : List ℕ) (k d : ℕ) → k < length xs → get_or xs k d ≡ s → 0 < times s xs
held s [] k d lt e = omega (arith, lt)
held s (x ∷ xs) zero d lt e = subst (λ (y : ℕ). 0 < times s (y ∷ xs)) (sym e) (omega (arith, times_same s xs))
held s (x ∷ xs) (suc k) d lt e = omega (arith, held s xs k d (omega (arith, lt)) e)
