-- The places of transactions in a list.
use Rattle.std.proofs.Common.{◌≡◌, ℕ, ◌+◌, ◌<◌, ◌≤◌, cond, List, [], ◌∷◌, ◌++◌, length, refl, ap, sym, ◌∙◌, subst, arith}
use Rattle.std.proofs.lemmas.Bool.{eq-eqb, ne_eqb, cases_eq}
use mathlib.Core.Logic.{◌⊎◌, inl, inr}
use Rattle.order_check.specs.Lists.{IsIn, AreApart, place}

pub place-here : (x t : ℕ) (xs : List ℕ) → x ≡ t → place t (x ∷ xs) ≡ 0
place-here x t xs same = ap (λ b. cond b 0 (place t xs + 1)) (eq-eqb x t same)

pub place-later : (x t : ℕ) (xs : List ℕ) → (x ≡ t → ⊥) → place t (x ∷ xs) ≡ place t xs + 1
place-later x t xs other = ap (λ b. cond b 0 (place t xs + 1)) (ne_eqb x t other)

-- If `u` is not the first one, then who comes before `u` in the rest comes before `u`.
pub place-up : (x t u : ℕ) (xs : List ℕ) → (x ≡ u → ⊥) → place t xs < place u xs → place t (x ∷ xs) < place u (x ∷ xs)
place-up x t u xs other before = elim (cases_eq x t) [
  | inl same ↦ first same
  | inr apart ↦ later apart
]
  where
    first : x ≡ t → place t (x ∷ xs) < place u (x ∷ xs)
    first same =
        let a = place-here x t xs same in
        let b = place-later x u xs other in
        omega arith

    later : (x ≡ t → ⊥) → place t (x ∷ xs) < place u (x ∷ xs)
    later apart =
        let a = place-later x t xs apart in
        let b = place-later x u xs other in
        omega arith

pub place-first : (x u : ℕ) (xs : List ℕ) → (x ≡ u → ⊥) → place x (x ∷ xs) < place u (x ∷ xs)
place-first x u xs other =
    let a = place-here x x xs refl in
    let b = place-later x u xs other in
    omega arith

pub in_rest : (x t : ℕ) (xs : List ℕ) → (x ≡ t → ⊥) → IsIn t (x ∷ xs) → IsIn t xs
in_rest x t xs other is_in = elim is_in [
  | inl same ↦ absurd (other same)
  | inr rest ↦ rest
]

pub in_left : (t : ℕ) (p q : List ℕ) → IsIn t p → IsIn t (p ++ q)
in_left t [] q is_in = absurd is_in
in_left t (x ∷ p) q is_in = elim is_in [
  | inl same ↦ inl same
  | inr rest ↦ inr (in_left t p q rest)
]

pub in_right : (t : ℕ) (p q : List ℕ) → IsIn t q → IsIn t (p ++ q)
in_right t [] q is_in = is_in
in_right t (x ∷ p) q is_in = inr (in_right t p q is_in)

pub in_parts : (t : ℕ) (p q : List ℕ) → IsIn t (p ++ q) → IsIn t p ⊎ IsIn t q
in_parts t [] q is_in = inr is_in
in_parts t (x ∷ p) q is_in = elim is_in [
  | inl same ↦ inl (inl same)
  | inr rest ↦ elim (in_parts t p q rest) [
    | inl left ↦ inl (inr left)
    | inr right ↦ inr right
  ]
]

-- In a list without repetitions, nothing is on both sides of a cut.
pub not_both : (t : ℕ) (p q : List ℕ) → AreApart (p ++ q) → IsIn t p → IsIn t q → ⊥
not_both t [] q apart in_p in_q = in_p
not_both t (x ∷ p) q apart in_p in_q = elim in_p [
  | inl same ↦ apart.0 (in_right x p q (subst (λ y. IsIn y q) (sym same) in_q))
  | inr rest ↦ not_both t p q apart.1 rest in_q
]

-- The places of what stands in the left part of a list, and only those, are below its length.
pub place-left : (t : ℕ) (p q : List ℕ) → IsIn t p → place t (p ++ q) < length p
place-left t [] q is_in = absurd is_in
place-left t (x ∷ p) q is_in = elim (cases_eq x t) [
  | inl same ↦ first same
  | inr other ↦ later other (place-left t p q (in_rest x t p other is_in))
]
  where
    first : x ≡ t → place t (x ∷ (p ++ q)) < length (x ∷ p)
    first same = let a = place-here x t (p ++ q) same in omega arith

    later : (x ≡ t → ⊥) → place t (p ++ q) < length p → place t (x ∷ (p ++ q)) < length (x ∷ p)
    later other lt = let a = place-later x t (p ++ q) other in omega arith

pub in_left-place : (t : ℕ) (p q : List ℕ) → place t (p ++ q) < length p → IsIn t p
in_left-place t [] q lt = absurd (omega arith)
in_left-place t (x ∷ p) q lt = elim (cases_eq x t) [
  | inl same ↦ inl same
  | inr other ↦ inr (in_left-place t p q (down other))
]
  where
    down : (x ≡ t → ⊥) → place t (p ++ q) < length p
    down other = let a = place-later x t (p ++ q) other in omega arith

pub place-next : (u : ℕ) (p q : List ℕ) → place u (p ++ u ∷ q) ≤ length p
place-next u [] q = let a = place-here u u q refl in omega arith
place-next u (x ∷ p) q = elim (cases_eq x u) [
  | inl same ↦ first same
  | inr other ↦ later other (place-next u p q)
]
  where
    first : x ≡ u → place u (x ∷ (p ++ u ∷ q)) ≤ length (x ∷ p)
    first same = let a = place-here x u (p ++ u ∷ q) same in omega arith

    later : (x ≡ u → ⊥) → place u (p ++ u ∷ q) ≤ length p → place u (x ∷ (p ++ u ∷ q)) ≤ length (x ∷ p)
    later other le = let a = place-later x u (p ++ u ∷ q) other in omega arith

pub place-append : (t : ℕ) (p q : List ℕ) → IsIn t p → place t (p ++ q) ≡ place t p
place-append t [] q is_in = absurd is_in
place-append t (x ∷ p) q is_in = elim (cases_eq x t) [
  | inl same ↦ place-here x t (p ++ q) same ∙ sym (place-here x t p same)
  | inr other ↦ place-later x t (p ++ q) other ∙ ap (λ n. n + 1) (place-append t p q (in_rest x t p other is_in)) ∙ sym (place-later x t p other)
]

pub apart_push : (t : ℕ) (xs : List ℕ) → AreApart xs → (IsIn t xs → ⊥) → AreApart (xs ++ t ∷ [])
apart_push t [] apart not_in = (λ is_in. is_in, tt)
apart_push t (x ∷ xs) apart not_in = (
  λ is_in. elim (in_parts x xs (t ∷ []) is_in) [
    | inl before ↦ apart.0 before
    | inr last ↦ elim last [
      | inl same ↦ not_in (inl (sym same))
      | inr never ↦ never
    ]
  ],
  apart_push t xs apart.1 (λ is_in. not_in (inr is_in)),
)
