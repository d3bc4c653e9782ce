-- Elements of lists by their positions, and lists whose elements all have a property.
use Rattle.std.proofs.Common.{◌≡◌, ℕ, zero, suc, List, [], ◌∷◌, ◌++◌, length, map, set, Some, refl, ap, subst, slice_get, All}
use Rattle.thread_runs.proofs.Vocabulary.{Each, get_empty}
use Rattle.script_worker.proofs.Vocabulary.{get_or_from_slice_get, slice_get-map, slice_get_within}

-- Let a statement be true for each element of `xs` at its position, and for `y` at the next
-- position. Then it is true for each element of `xs ++ y ∷ []`.
pub each_push : {X : Type 0} (P : ℕ → X → Type 0) (xs : List X) (y : X) → Each P xs → P (length xs) y → Each P (xs ++ y ∷ [])
each_push P [] y each here zero x is = let same : y ≡ x = cc is in rw same at here
each_push P [] y each here (suc i) x is = absurd (cc is)
each_push P (z ∷ xs) y each here zero x is = each zero x is
each_push P (z ∷ xs) y each here (suc i) x is = each_push (λ j. P (suc j)) xs y (λ j. each (suc j)) here i x is

-- The element of `map f rs` at a position is `f` of the element of `rs` at the same position.
pub get_map : {R X : Type 0} (f : R → X) (rs : List R) (k : ℕ) (x : X) → slice_get (map f rs) k ≡ Some x → (r : R) × (slice_get rs k ≡ Some r) × (f r ≡ x)
get_map f [] k x is = absurd (cc (get_empty k, is))
get_map f (r ∷ rs) zero x is = (r, refl, cc is)
get_map f (r ∷ rs) (suc k) x is = get_map f rs k x is

pub map_get : {R X : Type 0} (f : R → X) (rs : List R) (xs : List X) → xs ≡ map f rs → (k : ℕ) (r : R) → slice_get rs k ≡ Some r → slice_get xs k ≡ Some (f r)
map_get f rs xs are k r is = rw (are, slice_get-map f rs k, is)

-- If a statement is true for all elements of `map f rs`, it is true for `f r` for each element `r`
-- of `rs`.
pub all_at : {R K : Type 0} (P : K → Type 0) (f : R → K) (rs : List R) (ks : List K) → ks ≡ map f rs → All P ks → (i : ℕ) (r : R) → slice_get rs i ≡ Some r → P (f r)
all_at P f rs ks are all i r is =
    let here = map_get f rs ks are i r is in
    subst P (get_or_from_slice_get ks i (f r) (f r) here) (all i (f r) (slice_get_within ks i (f r) here))

-- If the element at one position is replaced, the element at any other position is unchanged.
pub get_set_other : {X : Type 0} (xs : List X) (i j : ℕ) (a : X) → (i ≡ j → ⊥) → slice_get (set xs i a) j ≡ slice_get xs j
get_set_other (y ∷ xs) zero zero a apart = absurd (apart refl)
get_set_other (y ∷ xs) (suc i) (suc j) a apart = get_set_other xs i j a (λ same. apart (ap (λ (n : ℕ). suc n) same))
get_set_other xs i j a apart = refl
