-- Lists of transactions: which transactions they have, and in which order.
use Rattle.std.specs.Prelude.{ℕ, ◌≡◌, ◌==◌, ◌+◌, List, [], ◌∷◌, if◌then◌else◌}
use mathlib.Core.Logic.{◌⊎◌}

-- The transaction is in the list.
abbrev pub IsIn : ℕ → List ℕ → Type 0
IsIn t [] = ⊥
IsIn t (x ∷ xs) = (x ≡ t) ⊎ IsIn t xs

-- No transaction is in the list twice.
abbrev pub AreApart : List ℕ → Type 0
AreApart [] = Unit {0}
AreApart (x ∷ xs) = (IsIn x xs → ⊥) × AreApart xs

-- How many transactions come before this one.
abbrev pub place : ℕ → List ℕ → ℕ
place t [] = 0
place t (x ∷ xs) = if x == t then 0 else place t xs + 1

-- The list has each of these transactions once, and no other.
pub record HasEachOnce (is_one : ℕ → Type 0) (ts : List ℕ) : Type 0 where
  pub apart : AreApart ts
  pub all : (t : ℕ) → is_one t → IsIn t ts
  pub only : (t : ℕ) → IsIn t ts → is_one t
