-- Words that name a stance, how often a stripe occurs in a list, and a list's elements by position.
use Rattle.std.proofs.Common.{replicate, ◌≡◌, ◌≢◌, ℕ, zero, suc, ◌+◌, ◌-◌, ◌<◌, ◌≤◌, ◌⊎◌, List, [], ◌∷◌, ◌++◌, length, get_or, reverse, Some, slice_get, sym, refl, ◌∙◌, ap, subst, inl, inr, ⊎_elim, arith, cond, eqb, eq-eqb, ne_eqb}
use Rattle.std.proofs.lemmas.List.{reverse-append}
use Rattle.std.proofs.lemmas.Option.{none-some, same_Some}
use mathlib.Core.Logic.{dite}
use mathlib.Core.Option.{some, some-injective, some-ne-none}
use native.Mathlib.Decide.{ℕ_discrete}
use lib.ListN.{get_elem?}
use Rattle.txn_words.specs.Held.{times, removed, once_for}

-- If the word names the stance, `once_for` is 1.
pub once_yes : (n word : ℕ) → word ≡ n + 1 → once_for n word ≡ 1
once_yes n word e = ap (λ b. cond b 1 0) (eq-eqb word (n + 1) e)

-- If the word does not name the stance, `once_for` is 0.
pub once_no : (n word : ℕ) → word ≢ n + 1 → once_for n word ≡ 0
once_no n word ne = ap (λ b. cond b 1 0) (ne_eqb word (n + 1) ne)

-- If a stance holds a stripe, the stripe's word names the stance.
pub own_word : (n word many : ℕ) → many ≡ once_for n word → 0 < many → word ≡ n + 1
own_word n word many e h = dite (ℕ_discrete word (n + 1)) (λ y. y) (λ ne. absurd (omega (arith, once_no n word ne)))

-- If a stripe is put in front of a list, it occurs once more than before.
pub times_same : (k : ℕ) (ks : List ℕ) → times k (k ∷ ks) ≡ 1 + times k ks
times_same k ks = ap (λ b. cond b 1 0 + times k ks) (eq-eqb k k refl)

-- If a stripe is put in front of a list, every other stripe occurs as often as before.
pub times_other : (k j : ℕ) (ks : List ℕ) → j ≢ k → times k (j ∷ ks) ≡ times k ks
times_other k j ks ne = ap (λ b. cond b 1 0 + times k ks) (ne_eqb j k ne) ∙ (omega arith)

times_append : (k : ℕ) (xs ys : List ℕ) → times k (xs ++ ys) ≡ times k xs + times k ys
times_append k [] ys = omega arith
times_append k (x ∷ xs) ys = omega (arith, times_append k xs ys)

-- In a reversed list, each stripe occurs as often as before.
pub times_reverse : (k : ℕ) (ks : List ℕ) → times k (reverse ks) ≡ times k ks
times_reverse k [] = refl
times_reverse k (x ∷ ks) = ap (times k) (reverse-append (x ∷ []) ks) ∙ times_append k (reverse ks) (x ∷ []) ∙ omega (arith, times_reverse k ks)

pub times_at : (ks : List ℕ) (i k : ℕ) → slice_get ks i ≡ Some k → 0 < times k ks
times_at [] i k e = absurd (none-some k e)
times_at (x ∷ ks) zero k e = subst (λ (j : ℕ). 0 < times k (j ∷ ks)) (sym (same_Some x k e)) (omega (arith, times_same k ks))
times_at (x ∷ ks) (suc i) k e = omega (arith, times_at ks i k e)

pub at_times : (ks : List ℕ) (k : ℕ) → 0 < times k ks → (i : ℕ) × (slice_get ks i ≡ Some k)
at_times [] k h = absurd (omega arith)
at_times (x ∷ ks) k h = dite (ℕ_discrete x k) (λ (e : x ≡ k). (0, ap (λ (y : ℕ). Some y) e))
    (λ ne. let more : 0 < times k ks = omega (arith, h, times_other k x ks ne) in let deep = at_times ks k more in (suc deep.0, deep.1))

-- If the first stripe of a list is removed, the result is the rest of the list.
pub removed_same : (k : ℕ) (ks : List ℕ) → removed k (k ∷ ks) ≡ ks
removed_same k ks = ap (λ b. cond b ks (k ∷ removed k ks)) (eq-eqb k k refl)

-- If the stripe to remove is not the first of the list, it is removed from the rest of the list.
pub removed_other : (k x : ℕ) (ks : List ℕ) → x ≢ k → removed k (x ∷ ks) ≡ x ∷ removed k ks
removed_other k x ks ne = ap (λ b. cond b ks (x ∷ removed k ks)) (ne_eqb x k ne)

-- If a stripe occurs in a list, its removal lowers the number of its occurrences by one. Otherwise
-- the number stays 0.
pub times_removed_same : (k : ℕ) (ks : List ℕ) → times k (removed k ks) ≡ times k ks - 1
times_removed_same k [] = refl
times_removed_same k (x ∷ ks) = dite (ℕ_discrete x k)
    (λ (e : x ≡ k). subst (λ (y : ℕ). times k (removed k (y ∷ ks)) ≡ times k (y ∷ ks) - 1) (sym e) (let a : times k (removed k (k ∷ ks)) ≡ times k ks = ap (times k) (removed_same k ks) in omega (arith, times_same k ks)))
    (λ ne. ap (times k) (removed_other k x ks ne) ∙ times_other k x (removed k ks) ne ∙ times_removed_same k ks ∙ ap (λ (n : ℕ). n - 1) (sym (times_other k x ks ne)))

-- If a stripe is removed from a list, every other stripe occurs as often as before.
pub times_removed_other : (k j : ℕ) (ks : List ℕ) → j ≢ k → times j (removed k ks) ≡ times j ks
times_removed_other k j [] ne = refl
times_removed_other k j (x ∷ ks) ne = dite (ℕ_discrete x k)
    (λ (e : x ≡ k). subst (λ (y : ℕ). times j (removed k (y ∷ ks)) ≡ times j (y ∷ ks)) (sym e) (ap (times j) (removed_same k ks) ∙ sym (times_other j k ks (λ y. ne (sym y)))))
    (λ no. let a : times j (removed k (x ∷ ks)) ≡ times j (x ∷ removed k ks) = ap (times j) (removed_other k x ks no) in a ∙ ap (λ (n : ℕ). cond (eqb x j) 1 0 + n) (times_removed_other k j ks ne))

-- If a stripe is removed from a list, no stripe occurs more often than before.
pub times_removed_le : (k j : ℕ) (ks : List ℕ) → times j (removed k ks) ≤ times j ks
times_removed_le k j ks = dite (ℕ_discrete j k)
    (λ (e : j ≡ k). subst (λ (i : ℕ). times i (removed k ks) ≤ times i ks) (sym e) (omega (arith, times_removed_same k ks))) (λ ne. omega (arith, times_removed_other k j ks ne))

-- `f` gives the word of each stripe before a step, and `g` after the step. The step changes at most
-- the word of stripe `i`.
module _ (f g : ℕ → ℕ) (i : ℕ) (other : (k : ℕ) → k ≢ i → g k ≡ f k) where
  -- If the word of stripe i names stance a neither before nor after the step, the step does not
  -- change which words name stance a.
  pub once_kept : (a : ℕ) → f i ≢ a + 1 → g i ≢ a + 1 → (k : ℕ) → once_for a (g k) ≡ once_for a (f k)
  once_kept a was is k = dite (ℕ_discrete k i)
      (λ (y : k ≡ i). subst (λ (j : ℕ). once_for a (g j) ≡ once_for a (f j)) (sym y) (once_no a (g i) is ∙ sym (once_no a (f i) was)))
      (λ no. ap (once_for a) (other k no))

  -- If stance `n` holds exactly the stripes whose words name it, this remains true when the stance
  -- takes stripe `i`.
  pub times_taken : (n : ℕ) (ks : List ℕ) → f i ≡ 0 → g i ≡ n + 1 → (k : ℕ) → times k ks ≡ once_for n (f k) → times k (i ∷ ks) ≡ once_for n (g k)
  times_taken n ks free mine k old = dite (ℕ_discrete k i)
      (λ (y : k ≡ i). subst (λ (j : ℕ). times j ks ≡ once_for n (f j) → times j (i ∷ ks) ≡ once_for n (g j)) (sym y)
      (λ at. omega (arith, at, times_same i ks, once_no n (f i) (λ q. omega arith), once_yes n (g i) mine)) old)
      (λ ne. times_other k i ks (λ y. ne (sym y)) ∙ old ∙ ap (once_for n) (sym (other k ne)))

  -- If stance `n` holds exactly the stripes whose words name it, this remains true when the stance
  -- gives stripe `i` back.
  pub times_given : (n : ℕ) (ks : List ℕ) → f i ≡ n + 1 → g i ≡ 0 → (k : ℕ) → times k ks ≡ once_for n (f k) → times k (removed i ks) ≡ once_for n (g k)
  times_given n ks mine free k old = dite (ℕ_discrete k i)
      (λ (y : k ≡ i). subst (λ (j : ℕ). times j ks ≡ once_for n (f j) → times j (removed i ks) ≡ once_for n (g j)) (sym y)
      (λ at. omega (arith, at, times_removed_same i ks, once_yes n (f i) mine, once_no n (g i) (λ q. omega arith))) old)
      (λ ne. times_removed_other i k ks ne ∙ old ∙ ap (once_for n) (sym (other k ne)))

-- Every read from a list of zeros gives 0, also past the end of the list.
pub zeros : (n k : ℕ) → ◌≡◌ {A = ℕ} (get_or (replicate n 0) k 0) 0
zeros zero k = refl
zeros (suc n) zero = refl
zeros (suc n) (suc k) = zeros n k

module _ {A : Type 0} where
  -- If a list has an element at position `i`, `i` is below the length of the list.
  pub within : (l : List A) (i : ℕ) (a : A) → get_elem? l i ≡ some a → i < length l
  within [] i a e = absurd (some-ne-none a (sym e))
  within (x ∷ xs) zero a e = omega arith
  within (x ∷ xs) (suc i) a e = let h : i < length xs = within xs i a e in omega arith

  -- If `a` is added at the end of a list, each element of the new list is `a` at the last position,
  -- or an element of the old list at its old position.
  pub at_end : (l : List A) (a b : A) (i : ℕ) → get_elem? (l ++ a ∷ []) i ≡ some b → (get_elem? l i ≡ some b) ⊎ ((i ≡ length l) × (a ≡ b))
  at_end [] a b zero e = inr (refl, some-injective a b e)
  at_end [] a b (suc i) e = absurd (some-ne-none b (sym e))
  at_end (x ∷ xs) a b zero e = inl e
  at_end (x ∷ xs) a b (suc i) e = ⊎_elim (λ (t : get_elem? xs i ≡ some b). inl t) (λ (t : (i ≡ length xs) × (a ≡ b)). inr (omega arith, t.1)) (at_end xs a b i e)

  pub only : (a b : A) (i : ℕ) → get_elem? (a ∷ []) i ≡ some b → (i ≡ 0) × (a ≡ b)
  only a b i e = ⊎_elim (λ z. absurd (some-ne-none b (sym z))) (λ t. t) (at_end [] a b i e)
