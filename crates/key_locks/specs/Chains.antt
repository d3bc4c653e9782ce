-- The stripes that each caller holds, as a chain. The chain begins with the stripe that the caller
-- took last, and ends with the stripe that it took first.
use Rattle.std.specs.Prelude.{◌≡◌, ℕ, ◌<◌, List, [], ◌∷◌, length, slice_index_or, Option, None, Some, Bool, false, ◌==◌}
use Rattle.std.specs.List.{list_any}
use Rattle.key_locks.specs.Locks.{holder_of, is_caller}

-- Whether the chain has the stripe.
abbrev pub is_in : List ℕ → ℕ → Bool
is_in chain stripe = list_any (λ other. other == stripe) chain

-- The chain begins with the stripe `first`. After each stripe comes the stripe that `older` has for
-- it. The chain ends where `older` has None. No stripe is in the chain twice.
abbrev pub Leads : List (Option ℕ) → Option ℕ → List ℕ → Type 0
Leads older first [] = first ≡ None
Leads older first (stripe ∷ rest) =
    (first ≡ Some stripe) × (is_in rest stripe ≡ false)
    × Leads older (slice_index_or older stripe None) rest

-- The chain has exactly the stripes that the caller holds.
pub record IsChain (holders older : List (Option ℕ)) (caller : ℕ) (first : Option ℕ)
    (chain : List ℕ) : Type 0 where
  pub leads : Leads older first chain
  pub held : (stripe : ℕ) → is_in chain stripe ≡ is_caller caller (holder_of holders stripe)

-- Each of the 64 callers has its chain, and only these callers hold stripes.
pub record AreChained (holders older newest : List (Option ℕ)) : Type 0 where
  pub as_many : length older ≡ length holders
  pub callers : length newest ≡ 64
  pub chain_of : (caller : ℕ) → caller < 64 → (chain : List ℕ)
      × IsChain holders older caller (slice_index_or newest caller None) chain
  pub none_else : (stripe holder : ℕ) → holder_of holders stripe ≡ Some holder → holder < 64
