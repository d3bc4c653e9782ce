-- Lemmas about the elements of lists at given places, about every n-th element of a list that
-- grows, and about the remainders of numbers.
use Rattle.std.proofs.Common.{◌≡◌, ℕ, ◌+◌, ◌<◌, ◌≤◌, List, [], ◌∷◌, ◌++◌, length, slice_get, Some, None, sym, ap, ◌∙◌, arith, zero, suc}
use Rattle.std.proofs.Common.{◌-◌, ◌*◌, ◌/◌, ◌%◌, map, refl, mod-eq_of_lt}
use Rattle.script_worker.proofs.Vocabulary.{add-mul-mod_self_right, every, mod-add-div', slice_get_past, slice_get_within}

pub get_empty : {X : Type 0} (k : ℕ) → slice_get {X = X} [] k ≡ None
get_empty k = slice_get_past [] k (omega arith)

-- If a list has no element at a place, the list's length is at most the place.
pub get_none : {X : Type 0} (xs : List X) (k : ℕ) → slice_get xs k ≡ None → length xs ≤ k
get_none [] k none = omega arith
get_none (x ∷ xs) zero none = absurd (cc none)
get_none (x ∷ xs) (suc k) none = omega (arith, get_none xs k none)

-- If a position is below the length of a list, the list has an element at this position.
pub get_within : {X : Type 0} (xs : List X) (k : ℕ) → k < length xs → (x : X) × (slice_get xs k ≡ Some x)
get_within [] k within = absurd (omega (arith, within))
get_within (x ∷ xs) zero within = (x, refl)
get_within (x ∷ xs) (suc k) within = get_within xs k (omega (arith, within))

-- If `x` is appended to a list, the element at the list's old length is `x`.
pub get_last : {X : Type 0} (xs : List X) (x : X) → slice_get (xs ++ x ∷ []) (length xs) ≡ Some x
get_last [] x = refl
get_last (y ∷ xs) x = get_last xs x

-- Element `k` of `every n after xs` is element `after + k * n` of `xs`.
pub get-every : {X : Type 0} (n : ℕ) → 0 < n → (xs : List X) (after k : ℕ) → slice_get (every n after xs) k ≡ slice_get xs (after + k * n)
get-every n some [] after k = get_empty k ∙ sym (get_empty (after + k * n))
get-every n some (x ∷ xs) zero zero = let none : 0 ≡ 0 + 0 * n = omega arith in ap (slice_get (x ∷ xs)) none
get-every n some (x ∷ xs) zero (suc k) =
    let same : suc (n - 1 + k * n) ≡ 0 + suc k * n = omega arith in
    rw (← same) (get-every n some xs (n - 1) k)
get-every n some (x ∷ xs) (suc after) k =
    let same : suc (after + k * n) ≡ suc after + k * n = omega arith in
    rw (← same) (get-every n some xs after k)

-- If the position of an appended element is `after + k * n`, the element is also appended to the
-- list of every n-th element.
pub every-hit : {X : Type 0} (n : ℕ) → 0 < n → (xs : List X) (x : X) (after k : ℕ) → length xs ≡ after + k * n → every n after (xs ++ x ∷ []) ≡ every n after xs ++ x ∷ []
every-hit n some [] x zero k at = refl
every-hit n some [] x (suc after) k at = absurd (omega arith)
every-hit n some (y ∷ xs) x zero zero at = absurd (omega (arith, at))
every-hit n some (y ∷ xs) x zero (suc k) at = ap (λ ys. y ∷ ys) (every-hit n some xs x (n - 1) k (omega (arith, at)))
every-hit n some (y ∷ xs) x (suc after) k at = every-hit n some xs x after k (omega (arith, at))

-- If an appended element is not at a position `after + k * n` for any `k`, appending it does not
-- change the list of every n-th element.
pub every-miss : {X : Type 0} (n : ℕ) → 0 < n → (xs : List X) (x : X) (after : ℕ) → ((k : ℕ) → length xs ≡ after + k * n → ⊥) → every n after (xs ++ x ∷ []) ≡ every n after xs
every-miss n some [] x zero never = absurd (never 0 (omega arith))
every-miss n some [] x (suc after) never = refl
every-miss n some (y ∷ xs) x zero never =
    ap (λ ys. y ∷ ys) (every-miss n some xs x (n - 1) (λ k at. never (suc k) (omega (arith, at))))
every-miss n some (y ∷ xs) x (suc after) never = every-miss n some xs x after (λ k at. never k (omega (arith, at)))

-- If two lists have equal lengths, their lists of every n-th element have equal lengths too.
pub every-length : {X Y : Type 0} (n : ℕ) (xs : List X) (ys : List Y) (after : ℕ) → length xs ≡ length ys → length (every n after xs) ≡ length (every n after ys)
every-length n [] [] after same = refl
every-length n (x ∷ xs) (y ∷ ys) zero same = ap (λ (k : ℕ). suc k) (every-length n xs ys (n - 1) (omega (arith, same)))
every-length n (x ∷ xs) (y ∷ ys) (suc after) same = every-length n xs ys after (omega (arith, same))
every-length n xs ys after same = absurd (cc same)

pub every-map : {X Y : Type 0} (f : X → Y) (n : ℕ) (xs : List X) (after : ℕ) → every n after (map f xs) ≡ map f (every n after xs)
every-map f n [] after = refl
every-map f n (x ∷ xs) zero = ap (λ ys. f x ∷ ys) (every-map f n xs (n - 1))
every-map f n (x ∷ xs) (suc after) = every-map f n xs after

-- A number is its remainder modulo `n`, plus its quotient times `n`.
pub number_at : (number n : ℕ) → number ≡ number % n + number / n * n
number_at number n = sym (mod-add-div' number n)

-- If `a + k * n` equals `b + j * n`, and `a` and `b` are below `n`, then `a` equals `b`.
pub one_remainder : (n a b k j : ℕ) → a < n → b < n → a + k * n ≡ b + j * n → a ≡ b
one_remainder n a b k j low high same =
    sym (add-mul-mod_self_right a k n ∙ mod-eq_of_lt low) ∙ ap (λ m. m % n) same ∙ add-mul-mod_self_right b j n ∙ mod-eq_of_lt high

-- Let `xs` be shorter than `ys`, and let `c` be the remainder of the length of `xs` modulo `n`.
-- Then `every n c xs` is shorter than `every n c ys`.
pub every-fewer : {X Y : Type 0} (n : ℕ) → 0 < n → (xs : List X) (ys : List Y) → length xs < length ys → length (every n (length xs % n) xs) < length (every n (length xs % n) ys)
every-fewer n some xs ys fewer =
    let c : ℕ = length xs % n in
    let k : ℕ = length xs / n in
    let at : length xs ≡ c + k * n = number_at (length xs) n in
    let mine : length (every n c xs) ≤ k = get_none (every n c xs) k
    (get-every n some xs c k ∙ ap (slice_get xs) (sym at) ∙ slice_get_past xs (length xs) (omega arith)) in
    let (y, is) = get_within ys (length xs) fewer in
    let theirs : k < length (every n c ys) = slice_get_within (every n c ys) k y
    (get-every n some ys c k ∙ ap (slice_get ys) (sym at) ∙ is) in
    omega arith
