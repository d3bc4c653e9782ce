-- What is known after one more thing is noted.
use Rattle.std.proofs.Common.{◌≡◌, ℕ, zero, suc, ◌<◌, ◌≤◌, Bool, true, false, List, [], ◌∷◌, ◌++◌, length, set, get_or, refl, ap, sym, ◌∙◌, subst, arith}
use Rattle.std.specs.Prelude.{replicate}
use Rattle.std.specs.declared.vec.Vec.{Vec}
use Rattle.std.specs.declared.alloc.Global.{Global}
use Rattle.std.proofs.lemmas.Bool.{cases_eq, false≢true}
use Rattle.std.proofs.lemmas.List.{get_or-set_other}
use mathlib.Core.Logic.{inl, inr}
use Rattle.order_check.specs.declared.access.Access.{Access}
use Rattle.order_check.specs.Known.{Precedes, SetsAt, is_known, row_of}

pub row_past : (rows : List (Vec Bool Global)) (t : ℕ) → length rows ≤ t → row_of rows t ≡ []
row_past [] t past = refl
row_past (r ∷ rows) zero past = absurd (omega arith)
row_past (r ∷ rows) (suc t) past = row_past rows t (omega arith)

pub row_read : (rows : List (Vec Bool Global)) (t : ℕ) (row : Vec Bool Global) → t < length rows → row ≡ get_or rows t row → row_of rows t ≡ row.items
row_read [] t row below is = absurd (omega arith)
row_read (r ∷ rows) zero row below is = ap (λ (x : Vec Bool Global). x.items) (sym is)
row_read (r ∷ rows) (suc t) row below is = row_read rows t row (omega arith) is

row-set_here : (rows : List (Vec Bool Global)) (t : ℕ) (row : Vec Bool Global) → t < length rows → row_of (set rows t row) t ≡ row.items
row-set_here [] t row below = absurd (omega arith)
row-set_here (r ∷ rows) zero row below = refl
row-set_here (r ∷ rows) (suc t) row below = row-set_here rows t row (omega arith)

row-set_other : (rows : List (Vec Bool Global)) (t u : ℕ) (row : Vec Bool Global) → (u ≡ t → ⊥) → row_of (set rows t row) u ≡ row_of rows u
row-set_other [] t u row other = refl
row-set_other (r ∷ rows) zero zero row other = absurd (other refl)
row-set_other (r ∷ rows) zero (suc u) row other = refl
row-set_other (r ∷ rows) (suc t) zero row other = refl
row-set_other (r ∷ rows) (suc t) (suc u) row other = row-set_other rows t u row (λ same. other (ap (λ n. suc n) same))

pub sets_at : (row : List Bool) (i : ℕ) → SetsAt i row (set row i true)
sets_at row i j is = elim (cases_eq j i) [
  | inl same ↦ inr (sym same)
  | inr other ↦ inl (sym (get_or-set_other row i j true false other) ∙ is)
]

-- One more thing is known.
pub known_more : (n : ℕ) (since : ℕ → ℕ) (accesses : List Access) (rows : List (Vec Bool Global)) (t u : ℕ) (row changed : Vec Bool Global) → t < length rows → row ≡ get_or rows t row → SetsAt u row.items changed.items
    → ((x y : ℕ) → is_known rows x y ≡ true → Precedes n since accesses x y) → Precedes n since accesses t u → (x y : ℕ) → is_known (set rows t changed) x y ≡ true → Precedes n since accesses x y
known_more n since accesses rows t u row changed below is sets were so x y known = elim (cases_eq x t) [
  | inl here ↦
      let in_row : get_or changed.items y false ≡ true = ap (λ bits. get_or bits y false) (sym (row-set_here rows t changed below)) ∙ ap (λ z. is_known (set rows t changed) z y) (sym here) ∙ known in
      subst (λ z. Precedes n since accesses z y) (sym here) (elim (sets y in_row) [
        | inl before ↦ were t y (ap (λ bits. get_or bits y false) (row_read rows t row below is) ∙ before)
        | inr last ↦ subst (Precedes n since accesses t) last so
      ])
  | inr other ↦ were x y (ap (λ bits. get_or bits y false) (sym (row-set_other rows t x changed other)) ∙ known)
]

pub precedes_over : (n : ℕ) (since : ℕ → ℕ) (accesses : List Access) (t u v : ℕ) → Precedes n since accesses t u → Precedes n since accesses u v → Precedes n since accesses t v
precedes_over n since accesses t u v first second ts order =
    let a = first ts order in
    let b = second ts order in
    omega arith

-- Rows of nothing.
abbrev pub AreBlank : List (Vec Bool Global) → Type 0
AreBlank rows = (t u : ℕ) → is_known rows t u ≡ true → ⊥

blank_row : (count u : ℕ) → get_or (replicate count false) u false ≡ true → ⊥
blank_row zero u is = false≢true is
blank_row (suc count) zero is = false≢true is
blank_row (suc count) (suc u) is = blank_row count u is

pub blank_more : (rows rows' : List (Vec Bool Global)) (row : Vec Bool Global) (count : ℕ) → AreBlank rows → row.items ≡ replicate count false → rows' ≡ rows ++ row ∷ [] → AreBlank rows'
blank_more rows rows' row count blank row_is is t u known = push rows blank t (ap (λ rs. is_known rs t u) (sym is) ∙ known)
  where
    push : (rows : List (Vec Bool Global)) → AreBlank rows → (t : ℕ) → is_known (rows ++ row ∷ []) t u ≡ true → ⊥
    push [] blank zero known = blank_row count u (ap (λ bits. get_or bits u false) (sym row_is) ∙ known)
    push [] blank (suc t) known = false≢true known
    push (r ∷ rows) blank zero known = blank zero u known
    push (r ∷ rows) blank (suc t) known = push rows (λ x y is. blank (suc x) y is) t known
