-- The removal of a key that is not in a map.
use Rattle.std.proofs.Common.{◌≡◌, ℕ, inl, inr, None, cond, sym, ◌∙◌, ap}
use Rattle.map_ops.specs.Vocabulary.{Map, get, remove}
use Rattle.map_ops.proofs.Vocabulary.{cases_eq, eq-eqb, get-remove, ne_eqb, same_map}

-- Removing a key that is absent changes nothing.
pub remove-absent : (m : Map) (k : ℕ) → get m k ≡ None → remove m k ≡ m
remove-absent m k none = same_map (remove m k) m (λ q. get-remove m k q ∙ elim (cases_eq q k) [
  | inl same ↦ ap (λ b. cond b None (get m q)) (eq-eqb q k same) ∙ sym (ap (get m) same ∙ none)
  | inr other ↦ ap (λ b. cond b None (get m q)) (ne_eqb q k other)
])
