-- Sums over ranges of numbers in which one summand changes.
use Rattle.std.proofs.Common.{◌≡◌, ◌≢◌, ℕ, zero, suc, ◌+◌, ◌<◌, ◌≤◌, Bool, true, false, cond, List, [], ◌∷◌, length, refl, ap, sym, ◌∙◌, arith}
use Rattle.std.specs.List.{filter, sum_by, range_with_len}
use Rattle.std.proofs.lemmas.Bool.{cases_eq}
use Rattle.std.proofs.lemmas.List.Sums.{sum_by-cons}
use mathlib.Core.Logic.{inl, inr}

-- If two sums have equal summands, they are equal.
pub sum_same : (f g : ℕ → ℕ) (a n : ℕ) → ((x : ℕ) → a ≤ x → x < a + n → f x ≡ g x) → sum_by f (range_with_len a n) ≡ sum_by g (range_with_len a n)
sum_same f g a zero same = refl
sum_same f g a (suc n) same =
    let head : f a ≡ g a = same a (omega arith) (omega arith) in
    let rest : sum_by f (range_with_len (a + 1) n) ≡ sum_by g (range_with_len (a + 1) n) = sum_same f g (a + 1) n (λ x low high. same x (omega arith) (omega arith)) in
    sum_by-cons f a (range_with_len (a + 1) n) ∙ ap (λ x. x + sum_by f (range_with_len (a + 1) n)) head ∙ ap (λ x. g a + x) rest ∙ sym (sum_by-cons g a (range_with_len (a + 1) n))

-- If one summand changes, the sum changes by the same amount.
pub sum_at : (f g : ℕ → ℕ) (c a n : ℕ) → a ≤ c → c < a + n → ((x : ℕ) → x ≢ c → f x ≡ g x) → sum_by g (range_with_len a n) + f c ≡ sum_by f (range_with_len a n) + g c
sum_at f g c a zero low high same = absurd (omega arith)
sum_at f g c a (suc n) low high same =
    let before = sum_by-cons f a (range_with_len (a + 1) n) in
    let after = sum_by-cons g a (range_with_len (a + 1) n) in
    elim (cases_eq a c) [
      | inl here ↦
          let rest : sum_by f (range_with_len (a + 1) n) ≡ sum_by g (range_with_len (a + 1) n) = sum_same f g (a + 1) n (λ x above below. same x (λ is. let e : x ≡ c = is in absurd (omega arith))) in
          let f_here : f a ≡ f c = ap f here in
          let g_here : g a ≡ g c = ap g here in
          omega arith
      | inr other ↦
          let later : a + 1 ≤ c = omega arith in
          let rest = sum_at f g c (a + 1) n later (omega arith) same in
          let head : f a ≡ g a = same a other in
          omega arith
    ]

-- The number of elements that pass a test is a sum: 1 for each that passes, 0 for each other.
pub length-filter : (p : ℕ → Bool) (xs : List ℕ) → length (filter p xs) ≡ sum_by (λ x. cond (p x) 1 0) xs
length-filter p [] = refl
length-filter p (x ∷ xs) =
    let rest = length-filter p xs in
    let whole = sum_by-cons (λ y. cond (p y) 1 0) x xs in
    let one : length (cond (p x) (x ∷ filter p xs) (filter p xs)) ≡ cond (p x) 1 0 + length (filter p xs) =
    elim (p x) as (λ b. length (cond b (x ∷ filter p xs) (filter p xs)) ≡ cond b 1 0 + length (filter p xs)) [ true ↦ omega arith | false ↦ omega arith ] in
    one ∙ ap (λ n. cond (p x) 1 0 + n) rest ∙ sym whole
