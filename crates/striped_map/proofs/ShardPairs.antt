-- Shows that the pairs of the shards of all stripes are the pairs of the map, because each key is in
-- one stripe, whose shard has the map's value under its sub-key.
use Rattle.std.proofs.Common.{take, drop, append-nil, append_assoc, ◌≡◌, ◌≢◌, ℕ, zero, suc, ◌+◌, ◌*◌, ◌/◌, ◌%◌, ◌<◌, ◌≤◌, cond, T, List, [], ◌∷◌, ◌++◌, length, map, filter, flat_map, sum_by, reverse, Some, slice_get, sym, refl, ◌∙◌, ap, subst, arith, eq-eqb, ne_eqb, IsPermutation, is_lt, nat_cmp, Less, le_of_eq, lt_of_not-le, mod-lt}
use mathlib.Core.Logic.{dite}
use native.Mathlib.Decide.{ℕ_discrete}
use Rattle.std.specs.FinMap.{nat_cmp-IsAntisymmetric}
use Rattle.std.specs.FinMap.Entries.{find, is_sorted, below_all, same_entries}
use Rattle.std.specs.Cmp.{nat_cmp_total, nat_cmp_is, unsigned_tied}
use Rattle.std.proofs.Math.Nat.{mul-le-mul_right}
use Rattle.std.proofs.lemmas.Nat.{div-add-mod', div-mul-add, mod-mul-add}
use Rattle.std.proofs.lemmas.List.Sorted.{IsPermutation-refl, IsPermutation-sym, IsPermutation-trans, IsPermutation-cons, IsPermutation-middle, IsPermutation-append_right, length_permutation}
use Rattle.std.proofs.lemmas.List.{length-map, length-append}
use Rattle.std.proofs.lemmas.List.Sums.{sum_by-cons}
use Rattle.std.proofs.lemmas.Option.{none-some, same_Some}
use Rattle.txn_trace.specs.Locks.{stripe_of}
use Rattle.txn_words.specs.Held.{times}
use Rattle.txn_words.specs.Map.{Map, get}
use Rattle.txn_words.proofs.Holding.{times_same, times_other, times_reverse, at_times}
use Rattle.txn_words.proofs.Order.{pair_parts, pair_both}
use Rattle.stripe_shard.proofs.Rows.{below_is}
use Rattle.stripe_shard.specs.ShardAt.{ShardAt}
use Rattle.striped_map.specs.declared.view.View.{View}
use Rattle.striped_map.specs.Rule.{Holds, IsShardOf}
use Rattle.striped_map.specs.Sound.{HeldShard, AreHeld, stripes_in, with_shard}
use Rattle.striped_map.specs.Contents.{count_at, is_in, pairs_at, pairs_in, whole}
use Rattle.striped_map.proofs.Hands.{holds_at, stripe_at}

abbrev Pair : Type 0
Pair = ℕ × ℕ

-- `sub` is the pair with its sub-key in place of its key. `sub_rows` applies `sub` to the pairs in
-- the stripe k.
abbrev pub sub : ℕ → Pair → Pair
sub n pair = (pair.0 / n, pair.1)

abbrev pub sub_rows : ℕ → ℕ → List Pair → List Pair
sub_rows n k rows = map (sub n) (filter (is_in n k) rows)

is_below : (a b : ℕ) → a < b → T (is_lt (nat_cmp a b))
is_below a b less = subst (λ o. T (is_lt o)) (nat_cmp_is a b Less less) tt

-- If two keys are in the same stripe, the lower key has the lower sub-key.
sub_less : (n a b : ℕ) → stripe_of n a ≡ stripe_of n b → a < b → a / n < b / n
sub_less n a b same less = lt_of_not-le (λ (le : b / n ≤ a / n).
    let whole_a : a / n * n + a % n ≡ a = div-add-mod' a n in
    let whole_b : b / n * n + b % n ≡ b = div-add-mod' b n in
    let more : b / n * n ≤ a / n * n = mul-le-mul_right n le in
    omega arith)

sub_same : (n a b : ℕ) → stripe_of n a ≡ stripe_of n b → a / n ≡ b / n → a ≡ b
sub_same n a b same is = sym (div-add-mod' a n) ∙ ap (λ (x : ℕ). x * n + a % n) is ∙ ap (λ (x : ℕ). b / n * n + x) same ∙ div-add-mod' b n

below_sub : (n k key : ℕ) → stripe_of n key ≡ k → (rows : List Pair) → T (below_all nat_cmp key rows) → T (below_all nat_cmp (key / n) (sub_rows n k rows))
below_sub n k key in_k [] below = tt
below_sub n k key in_k (row ∷ rows) below =
    let both = pair_parts (is_lt (nat_cmp key row.0)) (below_all nat_cmp key rows) below in
    let more : T (below_all nat_cmp (key / n) (sub_rows n k rows)) = below_sub n k key in_k rows both.1 in
    dite (ℕ_discrete (stripe_of n row.0) k)
    (λ (is : stripe_of n row.0 ≡ k). subst (λ b. T (below_all nat_cmp (key / n) (map (sub n) (cond b (row ∷ filter (is_in n k) rows) (filter (is_in n k) rows))))) (sym (eq-eqb (stripe_of n row.0) k is))
    (pair_both _ _ (is_below (key / n) (row.0 / n) (sub_less n key row.0 (in_k ∙ sym is) (below_is key row.0 both.0))) more))
    (λ out. subst (λ b. T (below_all nat_cmp (key / n) (map (sub n) (cond b (row ∷ filter (is_in n k) rows) (filter (is_in n k) rows))))) (sym (ne_eqb (stripe_of n row.0) k out)) more)

sorted_sub : (n k : ℕ) (rows : List Pair) → T (is_sorted nat_cmp rows) → T (is_sorted nat_cmp (sub_rows n k rows))
sorted_sub n k [] rise = tt
sorted_sub n k (row ∷ rows) rise =
    let both = pair_parts (below_all nat_cmp row.0 rows) (is_sorted nat_cmp rows) rise in
    let more : T (is_sorted nat_cmp (sub_rows n k rows)) = sorted_sub n k rows both.1 in
    dite (ℕ_discrete (stripe_of n row.0) k)
    (λ (is : stripe_of n row.0 ≡ k). subst (λ b. T (is_sorted nat_cmp (map (sub n) (cond b (row ∷ filter (is_in n k) rows) (filter (is_in n k) rows))))) (sym (eq-eqb (stripe_of n row.0) k is))
    (pair_both _ _ (below_sub n k row.0 is rows both.0) more))
    (λ out. subst (λ b. T (is_sorted nat_cmp (map (sub n) (cond b (row ∷ filter (is_in n k) rows) (filter (is_in n k) rows))))) (sym (ne_eqb (stripe_of n row.0) k out)) more)

find_sub : (n k key : ℕ) → stripe_of n key ≡ k → (rows : List Pair) → find nat_cmp (key / n) (sub_rows n k rows) ≡ find nat_cmp key rows
find_sub n k key in_k [] = refl
find_sub n k key in_k (row ∷ rows) =
    let F : List Pair = filter (is_in n k) rows in
    let more : find nat_cmp (key / n) (sub_rows n k rows) ≡ find nat_cmp key rows = find_sub n k key in_k rows in
    dite (ℕ_discrete key row.0)
    (λ (e : key ≡ row.0). let is : stripe_of n row.0 ≡ k = ap (stripe_of n) (sym e) ∙ in_k in
    ap (λ b. find nat_cmp (key / n) (map (sub n) (cond b (row ∷ F) F))) (eq-eqb (stripe_of n row.0) k is)
    ∙ ap (λ b. cond b (Some row.1) (find nat_cmp (key / n) (sub_rows n k rows))) (unsigned_tied (key / n) (row.0 / n) ∙ eq-eqb (key / n) (row.0 / n) (ap (λ (x : ℕ). x / n) e))
    ∙ sym (ap (λ b. cond b (Some row.1) (find nat_cmp key rows)) (unsigned_tied key row.0 ∙ eq-eqb key row.0 e)))
    (λ ne. dite (ℕ_discrete (stripe_of n row.0) k)
    (λ (is : stripe_of n row.0 ≡ k). ap (λ b. find nat_cmp (key / n) (map (sub n) (cond b (row ∷ F) F))) (eq-eqb (stripe_of n row.0) k is)
    ∙ ap (λ b. cond b (Some row.1) (find nat_cmp (key / n) (sub_rows n k rows))) (unsigned_tied (key / n) (row.0 / n) ∙ ne_eqb (key / n) (row.0 / n) (λ same. ne (sub_same n key row.0 (in_k ∙ sym is) same)))
    ∙ more ∙ sym (ap (λ b. cond b (Some row.1) (find nat_cmp key rows)) (unsigned_tied key row.0 ∙ ne_eqb key row.0 ne)))
    (λ out. ap (λ b. find nat_cmp (key / n) (map (sub n) (cond b (row ∷ F) F))) (ne_eqb (stripe_of n row.0) k out)
    ∙ more ∙ sym (ap (λ b. cond b (Some row.1) (find nat_cmp key rows)) (unsigned_tied key row.0 ∙ ne_eqb key row.0 ne))))

-- If a shard fits the map, its rows are the map's rows in its stripe, with sub-keys in place of keys
-- (`sub_rows`).
pub shard_rows : (n k : ℕ) → k < n → (c m : Map) → ((key : ℕ) → stripe_of n key ≡ k → get c (key / n) ≡ get m key) → c.rows ≡ sub_rows n k m.rows
shard_rows n k lt c m fits = same_entries nat_cmp nat_cmp_total nat_cmp-IsAntisymmetric c.rows (sub_rows n k m.rows) c.rising (sorted_sub n k m.rows m.rising) (λ q.
    let key : ℕ = q * n + k in
    let in_k : stripe_of n key ≡ k = mod-mul-add q n k lt in
    subst (λ (x : ℕ). get c x ≡ find nat_cmp x (sub_rows n k m.rows)) (div-mul-add q n k lt) (fits key in_k ∙ sym (find_sub n k key in_k m.rows)))

pub whole_sub : (n k : ℕ) (rows : List Pair) → map (whole n k) (sub_rows n k rows) ≡ filter (is_in n k) rows
whole_sub n k [] = refl
whole_sub n k (row ∷ rows) =
    let F : List Pair = filter (is_in n k) rows in
    dite (ℕ_discrete (stripe_of n row.0) k)
    (λ (is : stripe_of n row.0 ≡ k). ap (λ b. map (whole n k) (map (sub n) (cond b (row ∷ F) F))) (eq-eqb (stripe_of n row.0) k is)
    ∙ ap (λ (key : ℕ). (key, row.1) ∷ map (whole n k) (map (sub n) F)) (ap (λ (x : ℕ). row.0 / n * n + x) (sym is) ∙ div-add-mod' row.0 n)
    ∙ ap (λ (l : List Pair). row ∷ l) (whole_sub n k rows)
    ∙ sym (ap (λ b. cond b (row ∷ F) F) (eq-eqb (stripe_of n row.0) k is)))
    (λ out. ap (λ b. map (whole n k) (map (sub n) (cond b (row ∷ F) F))) (ne_eqb (stripe_of n row.0) k out) ∙ whole_sub n k rows
    ∙ sym (ap (λ b. cond b (row ∷ F) F) (ne_eqb (stripe_of n row.0) k out)))

-- The rows of the map, stripe by stripe.
abbrev by_stripes : ℕ → List ℕ → List Pair → List Pair
by_stripes n ks rows = flat_map (λ k. filter (is_in n k) rows) ks

none_more : (n : ℕ) (row : Pair) (rows : List Pair) (ks : List ℕ) → times (stripe_of n row.0) ks ≡ 0 → by_stripes n ks (row ∷ rows) ≡ by_stripes n ks rows
none_more n row rows [] none = refl
none_more n row rows (k ∷ ks) none = let s : ℕ = stripe_of n row.0 in let F : List Pair = filter (is_in n k) rows in
    let other : s ≢ k = λ (e : s ≡ k). let here : times s (k ∷ ks) ≡ 1 + times s ks = subst (λ (j : ℕ). times s (j ∷ ks) ≡ 1 + times s ks) e (times_same s ks) in absurd (omega arith) in
    ap (λ b. cond b (row ∷ F) F ++ by_stripes n ks (row ∷ rows)) (ne_eqb s k other)
    ∙ ap (λ (l : List Pair). F ++ l) (none_more n row rows ks (sym (times_other s k ks (λ e. other (sym e))) ∙ none))

one_more : (n : ℕ) (row : Pair) (rows : List Pair) (ks : List ℕ) → times (stripe_of n row.0) ks ≡ 1 → IsPermutation (row ∷ by_stripes n ks rows) (by_stripes n ks (row ∷ rows))
one_more n row rows [] once = absurd (omega arith)
one_more n row rows (k ∷ ks) once = let s : ℕ = stripe_of n row.0 in let F : List Pair = filter (is_in n k) rows in
    dite (ℕ_discrete s k)
    (λ (e : s ≡ k). let here : times s (k ∷ ks) ≡ 1 + times s ks = subst (λ (j : ℕ). times s (j ∷ ks) ≡ 1 + times s ks) e (times_same s ks) in
    let same : row ∷ by_stripes n (k ∷ ks) rows ≡ by_stripes n (k ∷ ks) (row ∷ rows) = ap (λ (l : List Pair). row ∷ F ++ l) (sym (none_more n row rows ks (omega arith)))
    ∙ sym (ap (λ b. cond b (row ∷ F) F ++ by_stripes n ks (row ∷ rows)) (eq-eqb s k e)) in
    subst (IsPermutation (row ∷ by_stripes n (k ∷ ks) rows)) same (IsPermutation-refl _))
    (λ ne. subst (λ b. IsPermutation (row ∷ by_stripes n (k ∷ ks) rows) (cond b (row ∷ F) F ++ by_stripes n ks (row ∷ rows))) (sym (ne_eqb s k ne))
    (IsPermutation-trans _ (F ++ row ∷ by_stripes n ks rows) _ (IsPermutation-sym _ _ (IsPermutation-middle F row (by_stripes n ks rows)))
    (IsPermutation-append_right F _ _ (one_more n row rows ks (sym (times_other s k ks (λ e. ne (sym e))) ∙ once)))))

no_rows : (n : ℕ) (ks : List ℕ) → by_stripes n ks [] ≡ []
no_rows n [] = refl
no_rows n (k ∷ ks) = no_rows n ks

pub all_stripes : (n : ℕ) (ks : List ℕ) → ((k : ℕ) → k < n → times k ks ≡ 1) → 0 < n → (rows : List Pair) → IsPermutation rows (by_stripes n ks rows)
all_stripes n ks once some [] = subst (IsPermutation []) (sym (no_rows n ks)) (IsPermutation-refl [])
all_stripes n ks once some (row ∷ rows) = IsPermutation-trans _ _ _ (IsPermutation-cons row _ _ (all_stripes n ks once some rows))
    (one_more n row rows ks (once (stripe_of n row.0) (mod-lt row.0 some)))

-- If a shard fits the map, its pairs are the map's rows in its stripe.
pub shard_pairs : (n : ℕ) (h : HeldShard) (m : Map) → h.stripe < n → IsShardOf n h.stripe h.shard m
    → pairs_at n h ≡ filter (is_in n h.stripe) m.rows
shard_pairs n h m lt fits = ap (map (whole n h.stripe)) (shard_rows n h.stripe lt h.shard.content m fits) ∙ whole_sub n h.stripe m.rows

shards_pairs : (n : ℕ) (m : Map) (held : List HeldShard) → ((i : ℕ) (h : HeldShard) → slice_get held i ≡ Some h → (h.stripe < n) × IsShardOf n h.stripe h.shard m) → pairs_in n held ≡ by_stripes n (stripes_in held) m.rows
shards_pairs n m [] fit = refl
shards_pairs n m (h ∷ held) fit = let first = fit 0 h refl in
    ap (λ (l : List Pair). l ++ pairs_in n held) (shard_pairs n h m first.0 first.1)
    ∙ ap (λ (l : List Pair). filter (is_in n h.stripe) m.rows ++ l) (shards_pairs n m held (λ i other at. fit (suc i) other at))

times_once : (k : ℕ) (ks : List ℕ) → ((i j stripe : ℕ) → slice_get ks i ≡ Some stripe → slice_get ks j ≡ Some stripe → i ≡ j) → times k ks ≤ 1
times_once k [] apart = omega arith
times_once k (x ∷ ks) apart = dite (ℕ_discrete x k)
    (λ (e : x ≡ k). let here : times k (x ∷ ks) ≡ 1 + times k ks = subst (λ (j : ℕ). times k (j ∷ ks) ≡ 1 + times k ks) (sym e) (times_same k ks) in
    le_of_eq (here ∙ ap (λ (c : ℕ). 1 + c) (no_other e (times k ks) refl)))
    (λ ne. let more : times k ks ≤ 1 = times_once k ks (λ i j stripe a b. suc_same i j (apart (suc i) (suc j) stripe a b)) in omega (arith, more, times_other k x ks ne))
  where
    suc_same : (i j : ℕ) → suc i ≡ suc j → i ≡ j
    suc_same i j e = omega arith

    no_other : x ≡ k → (c : ℕ) → times k ks ≡ c → times k ks ≡ 0
    no_other e zero is = is
    no_other e (suc c) is = let at = at_times ks k (omega arith) in let same : 0 ≡ suc at.0 = apart 0 (suc at.0) k (ap (λ (y : ℕ). Some y) e) at.1 in absurd (omega arith)

-- If a seat holds every stripe, the pairs of its shards are the map's pairs, in some order.
pub all_pairs : (n : ℕ) (v : View) (held : List HeldShard) (m : Map) → 0 < n → AreHeld n v held m → ((k : ℕ) → k < n → Holds v k) → ((k : ℕ) → Holds v k → k < n) → IsPermutation m.rows (pairs_in n held)
all_pairs n v held m some s all inside = subst (IsPermutation m.rows)
    (sym (shards_pairs n m held (λ i h at. (inside h.stripe (holds_at n v held m s i h.stripe (stripe_at held i h at)), s.fits i h at))))
    (all_stripes n (stripes_in held) once some m.rows)
  where
    once : (k : ℕ) → k < n → times k (stripes_in held) ≡ 1
    once k lt = let some : 0 < times k (reverse (stripes_in held)) = subst (λ (ks : List ℕ). 0 < times k ks) s.kept (all k lt) in
        omega (arith, some, times_reverse k (stripes_in held), times_once k (stripes_in held) s.apart)

-- The number of pairs in the shards from the place `i` on is the number of pairs in shard `i` plus
-- the number of pairs in the shards after it.
pub sum_drop : (f : ℕ → ShardAt) (ks : List ℕ) (i k : ℕ) → slice_get ks i ≡ Some k → sum_by count_at (map (with_shard f) (drop i ks)) ≡ count_at (with_shard f k) + sum_by count_at (map (with_shard f) (drop (suc i) ks))
sum_drop f [] i k at = absurd (none-some k at)
sum_drop f (x ∷ ks) zero k at = sum_by-cons count_at (with_shard f x) (map (with_shard f) ks) ∙ ap (λ (y : ℕ). count_at (with_shard f y) + sum_by count_at (map (with_shard f) ks)) (same_Some x k at)
sum_drop f (x ∷ ks) (suc i) k at = sum_drop f ks i k at

pub pairs_take : (n : ℕ) (f : ℕ → ShardAt) (ks : List ℕ) (i k : ℕ) → slice_get ks i ≡ Some k → pairs_in n (map (with_shard f) (take (suc i) ks)) ≡ pairs_in n (map (with_shard f) (take i ks)) ++ pairs_at n (with_shard f k)
pairs_take n f [] i k at = absurd (none-some k at)
pairs_take n f (x ∷ ks) zero k at = append-nil (pairs_at n (with_shard f x)) ∙ ap (λ (y : ℕ). pairs_at n (with_shard f y)) (same_Some x k at)
pairs_take n f (x ∷ ks) (suc i) k at = ap (λ (l : List Pair). pairs_at n (with_shard f x) ++ l) (pairs_take n f ks i k at)
    ∙ sym (append_assoc (pairs_at n (with_shard f x)) (pairs_in n (map (with_shard f) (take i ks))) (pairs_at n (with_shard f k)))

-- The number of pairs in several shards is the sum of the shards' counts.
length_pairs : (n : ℕ) (held : List HeldShard) → length (pairs_in n held) ≡ sum_by count_at held
length_pairs n [] = refl
length_pairs n (h ∷ held) = length-append (pairs_at n h) (pairs_in n held) ∙ ap (λ (c : ℕ). c + length (pairs_in n held)) (length-map h.shard.content.rows (whole n h.stripe))
    ∙ ap (λ (c : ℕ). count_at h + c) (length_pairs n held) ∙ sym (sum_by-cons count_at h held)

pub all_counted : (n : ℕ) (held : List HeldShard) (m : Map) → IsPermutation m.rows (pairs_in n held) → sum_by count_at held ≡ length m.rows
all_counted n held m p = sym (length_pairs n held) ∙ length_permutation m.rows (pairs_in n held) p
