-- How the ordered pairs of a map change if a pair is added, is removed or gets another value.
use Rattle.std.proofs.Common.{[], ◌≡◌, ◌≢◌, ℕ, ◌==◌, ◌&&◌, Bool, true, false, cond, T, List, ◌∷◌, ◌++◌, refl, ap, sym, subst, ◌∙◌, Some, None, Option}
use Rattle.std.specs.FinMap.Entries.{put, is_sorted, below_all, is_sorted-put}
use Rattle.std.specs.Ordering.{eq_by_cmp, is_lt}
use Rattle.std.specs.Cmp.{tied_itself}
use Rattle.std.proofs.lemmas.Bool.{cases_eq, eq-eqb, ne_eqb}
use mathlib.Core.Logic.{inl, inr}
use Rattle.txn_words.specs.Map.{Map, get, insert, remove}
use Rattle.txn_words.specs.Ordered.{split_cmp, ordered}
use Rattle.txn_words.proofs.Maps.{get-insert, get-remove}
use Rattle.txn_words.proofs.Order.{split_cmp_total, split_cmp_tied, value_at, IsSortedBySplit, value_at-put, sorted-ordered, pair_parts, pair_both, value_at-ordered, ordered_is}

-- The next lemmas are about sorted lists in which one pair is linked, written or unlinked.
below_middle : (x k v : ℕ) (front back : List (ℕ × ℕ)) → T (below_all split_cmp x (front ++ (k, v) ∷ back)) → T (is_lt (split_cmp x k))
below_middle x k v [] back below = (pair_parts (is_lt (split_cmp x k)) (below_all split_cmp x back) below).0
below_middle x k v (pair ∷ front) back below = below_middle x k v front back (pair_parts (is_lt (split_cmp x pair.0)) (below_all split_cmp x (front ++ (k, v) ∷ back)) below).1

below_without : (x k v : ℕ) (front back : List (ℕ × ℕ)) → T (below_all split_cmp x (front ++ (k, v) ∷ back)) → T (below_all split_cmp x (front ++ back))
below_without x k v [] back below = (pair_parts (is_lt (split_cmp x k)) (below_all split_cmp x back) below).1
below_without x k v (pair ∷ front) back below =
    let parts = pair_parts (is_lt (split_cmp x pair.0)) (below_all split_cmp x (front ++ (k, v) ∷ back)) below in
    pair_both _ _ parts.0 (below_without x k v front back parts.1)

below_written : (x k v w : ℕ) (front back : List (ℕ × ℕ)) → below_all split_cmp x (front ++ (k, v) ∷ back) ≡ below_all split_cmp x (front ++ (k, w) ∷ back)
below_written x k v w [] back = refl
below_written x k v w (pair ∷ front) back = ap (λ b. is_lt (split_cmp x pair.0) && b) (below_written x k v w front back)

sorted_without : (k v : ℕ) (front back : List (ℕ × ℕ)) → IsSortedBySplit (front ++ (k, v) ∷ back) → IsSortedBySplit (front ++ back)
sorted_without k v [] back sorted = (pair_parts (below_all split_cmp k back) (is_sorted split_cmp back) sorted).1
sorted_without k v (pair ∷ front) back sorted =
    let parts = pair_parts (below_all split_cmp pair.0 (front ++ (k, v) ∷ back)) (is_sorted split_cmp (front ++ (k, v) ∷ back)) sorted in
    pair_both _ _ (below_without pair.0 k v front back parts.0) (sorted_without k v front back parts.1)

sorted_written : (k v w : ℕ) (front back : List (ℕ × ℕ)) → is_sorted split_cmp (front ++ (k, v) ∷ back) ≡ is_sorted split_cmp (front ++ (k, w) ∷ back)
sorted_written k v w [] back = refl
sorted_written k v w (pair ∷ front) back =
    ap (λ b. b && is_sorted split_cmp (front ++ (k, v) ∷ back)) (below_written pair.0 k v w front back)
    ∙ ap (λ b. below_all split_cmp pair.0 (front ++ (k, w) ∷ back) && b) (sorted_written k v w front back)

less_apart : (a b : ℕ) → T (is_lt (split_cmp a b)) → a ≢ b
less_apart a b less same = subst (λ o. T (is_lt o)) (ap (split_cmp a) (sym same) ∙ tied_itself split_cmp_total a) less

value_at-middle : (q k v : ℕ) (front back : List (ℕ × ℕ)) → IsSortedBySplit (front ++ (k, v) ∷ back) → value_at q (front ++ (k, v) ∷ back) ≡ cond (q == k) (Some v) (value_at q (front ++ back))
value_at-middle q k v [] back sorted = ap (λ b. cond b (Some v) (value_at q back)) (split_cmp_tied q k)
value_at-middle q k v (pair ∷ front) back sorted =
    let parts = pair_parts (below_all split_cmp pair.0 (front ++ (k, v) ∷ back)) (is_sorted split_cmp (front ++ (k, v) ∷ back)) sorted in
    let other : pair.0 ≢ k = less_apart pair.0 k (below_middle pair.0 k v front back parts.0) in
    let there : Bool = eq_by_cmp split_cmp q pair.0 in
    ap (cond there (Some pair.1)) (value_at-middle q k v front back parts.1)
    ∙ elim (cases_eq q k) [
      | inl same ↦
          ap (λ b. cond b (Some pair.1) (cond (q == k) (Some v) (value_at q (front ++ back)))) (split_cmp_tied q pair.0 ∙ ne_eqb q pair.0 (λ is. other (sym is ∙ same)))
          ∙ ap (λ b. cond b (Some v) (value_at q (front ++ back))) (eq-eqb q k same)
          ∙ sym (ap (λ b. cond b (Some v) (cond there (Some pair.1) (value_at q (front ++ back)))) (eq-eqb q k same))
      | inr away ↦
          ap (λ b. cond there (Some pair.1) (cond b (Some v) (value_at q (front ++ back)))) (ne_eqb q k away)
          ∙ sym (ap (λ b. cond b (Some v) (cond there (Some pair.1) (value_at q (front ++ back)))) (ne_eqb q k away))
    ]

value_at-without : (k v : ℕ) (front back : List (ℕ × ℕ)) → IsSortedBySplit (front ++ (k, v) ∷ back) → value_at k (front ++ back) ≡ None
value_at-without k v [] back sorted = none_after k back (pair_parts (below_all split_cmp k back) (is_sorted split_cmp back) sorted).0
  where
    none_after : (k : ℕ) (es : List (ℕ × ℕ)) → T (below_all split_cmp k es) → value_at k es ≡ None
    none_after k [] below = refl
    none_after k (pair ∷ es) below =
        let parts = pair_parts (is_lt (split_cmp k pair.0)) (below_all split_cmp k es) below in
        ap (λ b. cond b (Some pair.1) (value_at k es)) (split_cmp_tied k pair.0 ∙ ne_eqb k pair.0 (less_apart k pair.0 parts.0)) ∙ none_after k es parts.1
value_at-without k v (pair ∷ front) back sorted =
    let parts = pair_parts (below_all split_cmp pair.0 (front ++ (k, v) ∷ back)) (is_sorted split_cmp (front ++ (k, v) ∷ back)) sorted in
    ap (λ b. cond b (Some pair.1) (value_at k (front ++ back))) (split_cmp_tied k pair.0 ∙ ne_eqb k pair.0 (λ is. less_apart pair.0 k (below_middle pair.0 k v front back parts.0) (sym is)))
    ∙ value_at-without k v front back parts.1

-- If a pair is added to the list `ordered m` and the longer list still rises, the longer list
-- equals `ordered (insert m k v)`.
pub ordered-linked : (m : Map) (k v : ℕ) (front back : List (ℕ × ℕ)) → front ++ back ≡ ordered m → IsSortedBySplit (front ++ (k, v) ∷ back) → front ++ (k, v) ∷ back ≡ ordered (insert m k v)
ordered-linked m k v front back is sorted = ordered_is (insert m k v) (front ++ (k, v) ∷ back) sorted (λ q.
    value_at-middle q k v front back sorted ∙ ap (λ es. cond (q == k) (Some v) (value_at q es)) is ∙ ap (cond (q == k) (Some v)) (value_at-ordered m q) ∙ sym (get-insert m k v q))

value_in : (m : Map) (k v : ℕ) (front back : List (ℕ × ℕ)) → front ++ (k, v) ∷ back ≡ ordered m → (q : ℕ) → get m q ≡ cond (q == k) (Some v) (value_at q (front ++ back))
value_in m k v front back is q = sym (value_at-ordered m q) ∙ ap (value_at q) (sym is) ∙ value_at-middle q k v front back (subst IsSortedBySplit (sym is) (sorted-ordered m))

-- If the pair with key `k` in the list `ordered m` gets the new value `w`, the result equals
-- `ordered (insert m k w)`.
pub ordered-written : (m : Map) (k v w : ℕ) (front back : List (ℕ × ℕ)) → front ++ (k, v) ∷ back ≡ ordered m → front ++ (k, w) ∷ back ≡ ordered (insert m k w)
ordered-written m k v w front back is =
    let sorted : IsSortedBySplit (front ++ (k, w) ∷ back) = subst T (sorted_written k v w front back) (subst IsSortedBySplit (sym is) (sorted-ordered m)) in
    ordered_is (insert m k w) (front ++ (k, w) ∷ back) sorted (λ q.
    value_at-middle q k w front back sorted ∙ twice (q == k) (value_at q (front ++ back)) ∙ ap (cond (q == k) (Some w)) (sym (value_in m k v front back is q)) ∙ sym (get-insert m k w q))
  where
    twice : (b : Bool) (rest : Option ℕ) → cond b (Some w) rest ≡ cond b (Some w) (cond b (Some v) rest)
    twice true rest = refl
    twice false rest = refl

-- If the pair with key `k` is removed from the list `ordered m`, the result equals `ordered (remove
-- m k)`.
pub ordered-unlinked : (m : Map) (k v : ℕ) (front back : List (ℕ × ℕ)) → front ++ (k, v) ∷ back ≡ ordered m → front ++ back ≡ ordered (remove m k)
ordered-unlinked m k v front back is =
    let sorted : IsSortedBySplit (front ++ (k, v) ∷ back) = subst IsSortedBySplit (sym is) (sorted-ordered m) in
    ordered_is (remove m k) (front ++ back) (sorted_without k v front back sorted) (λ q. elim (cases_eq q k) [
      | inl same ↦ ap (λ x. value_at x (front ++ back)) same ∙ value_at-without k v front back sorted ∙ sym (get-remove m k q ∙ ap (λ b. cond b None (get m q)) (eq-eqb q k same))
      | inr away ↦
          sym (ap (λ b. cond b (Some v) (value_at q (front ++ back))) (ne_eqb q k away)) ∙ sym (value_in m k v front back is q)
          ∙ sym (get-remove m k q ∙ ap (λ b. cond b None (get m q)) (ne_eqb q k away))
    ])

-- Inserting a pair into the map `m` and then listing its pairs gives the same as putting the pair
-- into the list `ordered m`.
pub ordered-insert : (m : Map) (k v : ℕ) → ordered (insert m k v) ≡ put split_cmp k v (ordered m)
ordered-insert m k v = sym (ordered_is (insert m k v) (put split_cmp k v (ordered m)) (is_sorted-put split_cmp split_cmp_total k v (ordered m) (sorted-ordered m)) (λ q.
    value_at-put q k v (ordered m) ∙ ap (cond (q == k) (Some v)) (value_at-ordered m q) ∙ sym (get-insert m k v q)))
