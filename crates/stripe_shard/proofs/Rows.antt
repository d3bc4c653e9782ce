-- The rows of a map are its pairs, sorted.
use Rattle.std.proofs.Common.{◌≡◌, ◌≢◌, ℕ, zero, suc, ◌<◌, ◌≤◌, ◌==◌, ◌⊎◌, false, cond, T, List, [], ◌∷◌, length, sum_by, get_or, sym, refl, ◌∙◌, ap, subst, inl, inr, ⊎_elim, arith, eq-eqb, ne_eqb, IsPermutation, IsSorted, is_lt, nat_cmp, Ordering, Less, Equal, Greater}
use mathlib.Core.Logic.{dite}
use native.Mathlib.Decide.{ℕ_discrete}
use Rattle.std.specs.List.Sorted.{IsNonDecreasingBy}
use Rattle.std.specs.FinMap.Entries.{is_sorted, below_all}
use Rattle.std.specs.Ordering.{ordering_then, MatchOrdering}
use Rattle.std.specs.Cmp.{ranks}
use Rattle.std.proofs.lemmas.List.Sorted.{sum_by-IsPermutation, IsNonDecreasingBy-from_sort}
use Rattle.std.proofs.lemmas.List.Sums.{sum_by-cons}
use Rattle.txn_words.specs.Map.{Map}
use Rattle.txn_words.proofs.Order.{pair_parts}

abbrev Pair : Type 0
Pair = ℕ × ℕ

pub below_is : (a b : ℕ) → T (is_lt (nat_cmp a b)) → a < b
below_is a b less = from (nat_cmp a b) refl less
  where
    from : (o : Ordering) → nat_cmp a b ≡ o → T (is_lt o) → a < b
    from Less is less = subst (λ r. MatchOrdering r (a < b) (a ≡ b) (b < a)) is (ranks a b)
    from Equal is less = absurd less
    from Greater is less = absurd less

-- 1 if the two pairs are equal, else 0.
abbrev occurs : Pair → Pair → ℕ
occurs p x = cond (x.0 == p.0) (cond (x.1 == p.1) 1 0) 0

occurs_here : (p : Pair) → occurs p p ≡ 1
occurs_here p = ap (λ b. cond b (cond (p.1 == p.1) 1 0) 0) (eq-eqb p.0 p.0 refl) ∙ ap (λ b. cond b 1 0) (eq-eqb p.1 p.1 refl)

occurs_away : (p x : Pair) → x ≢ p → occurs p x ≡ 0
occurs_away p x ne = dite (ℕ_discrete x.0 p.0)
    (λ (e : x.0 ≡ p.0). ap (λ b. cond b (cond (x.1 == p.1) 1 0) 0) (eq-eqb x.0 p.0 e) ∙ ap (λ b. cond b 1 0) (ne_eqb x.1 p.1 (λ f. ne (λ i. (e i, f i)))))
    (λ other. ap (λ b. cond b (cond (x.1 == p.1) 1 0) 0) (ne_eqb x.0 p.0 other))

pair_cases : (x p : Pair) → (x ≡ p) ⊎ (x ≢ p)
pair_cases x p = dite (ℕ_discrete x.0 p.0)
    (λ (e : x.0 ≡ p.0). dite (ℕ_discrete x.1 p.1) (λ (f : x.1 ≡ p.1). inl (λ i. (e i, f i))) (λ other. inr (λ same. other (ap (λ (y : Pair). y.1) same))))
    (λ other. inr (λ same. other (ap (λ (y : Pair). y.0) same)))

occurs_at : (p : Pair) (xs : List Pair) → 0 < sum_by (occurs p) xs → (i : ℕ) × (i < length xs) × (get_or xs i p ≡ p)
occurs_at p [] some = absurd (omega arith)
occurs_at p (x ∷ xs) some = ⊎_elim (λ (e : x ≡ p). (0, omega arith, e))
    (λ (ne : x ≢ p). let sum = sum_by-cons (occurs p) x xs in let none = occurs_away p x ne in let deep = occurs_at p xs (omega arith) in let within = deep.1 in (suc deep.0, omega arith, deep.2)) (pair_cases x p)

below_at : (key : ℕ) (rows : List Pair) → T (below_all nat_cmp key rows) → (i : ℕ) (d : Pair) → i < length rows → key < (get_or rows i d).0
below_at key [] below i d lt = absurd (omega arith)
below_at key (row ∷ rows) below zero d lt = below_is key row.0 (pair_parts (is_lt (nat_cmp key row.0)) (below_all nat_cmp key rows) below).0
below_at key (row ∷ rows) below (suc i) d lt = below_at key rows (pair_parts (is_lt (nat_cmp key row.0)) (below_all nat_cmp key rows) below).1 i d (omega arith)

same_rows : (rows found : List Pair) → T (is_sorted nat_cmp rows) → IsNonDecreasingBy (λ (p : Pair). p.0) found → ((p : Pair) → sum_by (occurs p) found ≡ sum_by (occurs p) rows) → found ≡ rows
same_rows [] [] rise up same = refl
same_rows [] (r ∷ found) rise up same = let sum = sum_by-cons (occurs r) r found in let here = occurs_here r in let none : sum_by (occurs r) (r ∷ found) ≡ 0 = same r in absurd (omega arith)
same_rows (x ∷ rows) [] rise up same = let sum = sum_by-cons (occurs x) x rows in let here = occurs_here x in let none : 0 ≡ sum_by (occurs x) (x ∷ rows) = same x in absurd (omega arith)
same_rows (x ∷ rows) (r ∷ found) rise up same = let both = pair_parts (below_all nat_cmp x.0 rows) (is_sorted nat_cmp rows) rise in
    ⊎_elim (λ (e : r ≡ x). ap (λ (p : Pair). p ∷ found) e ∙ ap (λ (l : List Pair). x ∷ l) (same_rows rows found both.1 (λ i j d le lt. up (suc i) (suc j) d (omega arith) (omega arith))
    (λ p. let a = sum_by-cons (occurs p) r found in let b = sum_by-cons (occurs p) x rows in let c = ap (occurs p) e in let s = same p in omega arith)))
    (λ (ne : r ≢ x).
    let later = occurs_at r rows (let a = sum_by-cons (occurs r) r found in let b = sum_by-cons (occurs r) x rows in let c = occurs_here r in let d = occurs_away r x (λ e. ne (sym e)) in let s = same r in omega arith) in
    let also = occurs_at x found (let a = sum_by-cons (occurs x) r found in let b = sum_by-cons (occurs x) x rows in let c = occurs_here x in let d = occurs_away x r ne in let s = same x in omega arith) in
    let less : x.0 < r.0 = subst (λ (p : Pair). x.0 < p.0) later.2 (below_at x.0 rows both.0 later.0 r later.1) in
    let more : r.0 ≤ x.0 = subst (λ (p : Pair). r.0 ≤ p.0) also.2 (up 0 (suc also.0) x (omega arith) (let within = also.1 in omega arith)) in
    absurd (omega arith)) (pair_cases r x)

first_less : (a b : Ordering) → is_lt (ordering_then a b) ≡ false → is_lt a ≡ false
first_less Less b is = is
first_less Equal b is = refl
first_less Greater b is = refl

up_sorted : (found : List Pair) → IsSorted (λ (a b : Pair). ordering_then (nat_cmp a.0 b.0) (nat_cmp a.1 b.1)) found → IsNonDecreasingBy (λ (p : Pair). p.0) found
up_sorted found sorted = IsNonDecreasingBy-from_sort (λ (p : Pair). p.0) found (λ k d low lt. first_less _ _ (sorted k d low lt))

-- If the pairs of a map are sorted, they are the map's rows.
pub rows_sorted : (m : Map) (pairs found : List Pair) → IsPermutation m.rows pairs → IsPermutation pairs found → IsSorted (λ (a b : Pair). ordering_then (nat_cmp a.0 b.0) (nat_cmp a.1 b.1)) found → found ≡ m.rows
rows_sorted m pairs found p q sorted = same_rows m.rows found m.rising (up_sorted found sorted) (λ x. sum_by-IsPermutation (occurs x) pairs found q ∙ sum_by-IsPermutation (occurs x) m.rows pairs p)
