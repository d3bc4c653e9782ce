-- Shows that exactly one list of a map's pairs rises strictly by sort keys (`ordered`), because
-- sort keys are in a total order and differ for different keys.
use Rattle.std.proofs.Common.{[], ◌≡◌, ◌≢◌, ℕ, ◌+◌, ◌<◌, ◌==◌, ◌&&◌, Bool, true, false, cond, T, List, ◌∷◌, length, refl, ap, sym, subst, ◌∙◌, Some, None, Option, is_some, arith}
use Rattle.std.specs.List.{fold, AllByRecursion}
use Rattle.std.specs.FinMap.{IsAntisymmetric, nat_cmp-IsAntisymmetric}
use Rattle.std.specs.FinMap.Entries.{find, put, is_sorted, below_all, is_sorted-put, find-put, same_entries, length-put}
use Rattle.std.specs.Ordering.{MatchOrdering, nat_cmp, eq_by_cmp, is_eq, is_lt, ordering_then}
use Rattle.std.specs.Cmp.{ranks, IsTotalOrder, nat_cmp_total, nat_cmp_is, tied_itself, unsigned_tied}
use Rattle.std.specs.declared.cmp.Ordering.{Ordering}
use Rattle.std.specs.declared.cmp.Ordering.TheVariants.{Less, Equal, Greater}
use Rattle.std.proofs.lemmas.Cmp.{then_total}
use Rattle.std.proofs.lemmas.Bool.{false≢true, cases_eq, eq-eqb, ne_eqb}
use mathlib.Core.Logic.{◌⊎◌, inl, inr}
use Rattle.split_key.specs.Split.{split}
use Rattle.split_key.specs.Sort.{IsBefore, regular_at}
use Rattle.split_key.proofs.SortLemmas.{lower_from, before_by_split, before_by_key}
use Rattle.txn_words.specs.Map.{Map, get, count_of}
use Rattle.txn_words.specs.Ordered.{split_cmp, ordered}

-- Comparing keys by their split keys gives a total order, and so does `split_cmp`. If `split_cmp`
-- finds two keys equal, they are the same key.
by_split_total : IsTotalOrder (λ a b. nat_cmp (split a) (split b))
by_split_total = record {
  antisymm = λ a b. nat_cmp_total.antisymm (split a) (split b);
  trans = λ a b c. nat_cmp_total.trans (split a) (split b) (split c);
  congr = λ a b c. nat_cmp_total.congr (split a) (split b) (split c);
}

pub split_cmp_total : IsTotalOrder split_cmp
split_cmp_total = then_total by_split_total nat_cmp_total

second_of : (a b : Ordering) → ordering_then a b ≡ Equal → b ≡ Equal
second_of Less b is = absurd (false≢true (ap is_eq is))
second_of Equal b is = is
second_of Greater b is = absurd (false≢true (ap is_eq is))

pub split_cmp-IsAntisymmetric : IsAntisymmetric split_cmp
split_cmp-IsAntisymmetric a b is = nat_cmp-IsAntisymmetric a b (second_of (nat_cmp (split a) (split b)) (nat_cmp a b) is)

apart : (a b : ℕ) → a ≢ b → (o : Ordering) → split_cmp a b ≡ o → is_eq (split_cmp a b) ≡ false
apart a b other Less is = ap is_eq is
apart a b other Greater is = ap is_eq is
apart a b other Equal is = absurd (other (split_cmp-IsAntisymmetric a b is))

pub split_cmp_tied : (a b : ℕ) → eq_by_cmp split_cmp a b ≡ (a == b)
split_cmp_tied a b = elim (cases_eq a b) [
  | inl same ↦ ap is_eq (ap (split_cmp a) (sym same) ∙ tied_itself split_cmp_total a) ∙ sym (eq-eqb a b same)
  | inr other ↦ apart a b other (split_cmp a b) refl ∙ sym (ne_eqb a b other)
]

pub split_cmp_less : (a b : ℕ) → IsBefore (regular_at a) (regular_at b) → split_cmp a b ≡ Less
split_cmp_less a b before = elim (lower_from (regular_at a) (regular_at b) before) [
  | inl less ↦ ap (λ o. ordering_then o (nat_cmp a b)) (sym (nat_cmp_is (split a) (split b) Less less))
  | inr both ↦
      ap (λ o. ordering_then o (nat_cmp a b)) (ap (nat_cmp (split a)) (sym both.0) ∙ tied_itself nat_cmp_total (split a))
      ∙ sym (nat_cmp_is a b Less both.1)
]

-- The value that a list of pairs has at a key.
abbrev pub value_at : ℕ → List (ℕ × ℕ) → Option ℕ
value_at k es = find split_cmp k es

-- The keys of the pairs rise strictly by `split_cmp`.
abbrev pub IsSortedBySplit : List (ℕ × ℕ) → Type 0
IsSortedBySplit es = T (is_sorted split_cmp es)

pub value_at-put : (q k v : ℕ) (es : List (ℕ × ℕ)) → value_at q (put split_cmp k v es) ≡ cond (q == k) (Some v) (value_at q es)
value_at-put q k v es = find-put split_cmp split_cmp_total q k v es ∙ ap (λ b. cond b (Some v) (value_at q es)) (split_cmp_tied q k)

abbrev puts : List (ℕ × ℕ) → List (ℕ × ℕ) → List (ℕ × ℕ)
puts es rows = fold (λ pairs pair. put split_cmp pair.0 pair.1 pairs) es rows

sorted-puts : (rows es : List (ℕ × ℕ)) → IsSortedBySplit es → IsSortedBySplit (puts es rows)
sorted-puts [] es is = is
sorted-puts (row ∷ rows) es is = sorted-puts rows (put split_cmp row.0 row.1 es) (is_sorted-put split_cmp split_cmp_total row.0 row.1 es is)

-- The pairs in `ordered m` rise strictly by `split_cmp`.
pub sorted-ordered : (m : Map) → IsSortedBySplit (ordered m)
sorted-ordered m = sorted-puts m.rows [] tt

pub pair_parts : (a b : Bool) → T (a && b) → T a × T b
pair_parts true b is = (tt, is)
pair_parts false b is = absurd is

pub pair_both : (a b : Bool) → T a → T b → T (a && b)
pair_both true b p q = q
pair_both false b p q = p

not_below_itself : (k : ℕ) → T (is_lt (nat_cmp k k)) → ⊥
not_below_itself k is = subst (λ o. T (is_lt o)) (tied_itself nat_cmp_total k) is

none_below : (k : ℕ) (rows : List (ℕ × ℕ)) → T (below_all nat_cmp k rows) → find nat_cmp k rows ≡ None
none_below k [] is = refl
none_below k (row ∷ rows) is =
    let parts = pair_parts (is_lt (nat_cmp k row.0)) (below_all nat_cmp k rows) is in
    ap (λ b. cond b (Some row.1) (find nat_cmp k rows)) (unsigned_tied k row.0 ∙ ne_eqb k row.0 (λ same. not_below_itself k (subst (λ x. T (is_lt (nat_cmp k x))) (sym same) parts.0))) ∙ none_below k rows parts.1

-- The first option if it has a value, else the second.
abbrev pub or_else : Option ℕ → Option ℕ → Option ℕ
or_else None y = y
or_else (Some v) y = Some v

value_at-puts : (k : ℕ) (rows es : List (ℕ × ℕ)) → T (is_sorted nat_cmp rows) → value_at k (puts es rows) ≡ or_else (find nat_cmp k rows) (value_at k es)
value_at-puts k [] es is = refl
value_at-puts k (row ∷ rows) es is =
    let parts = pair_parts (below_all nat_cmp row.0 rows) (is_sorted nat_cmp rows) is in
    value_at-puts k rows (put split_cmp row.0 row.1 es) parts.1 ∙ ap (or_else (find nat_cmp k rows)) (value_at-put k row.0 row.1 es)
    ∙ elim (cases_eq k row.0) [
      | inl same ↦
          ap (λ o. or_else o (cond (k == row.0) (Some row.1) (value_at k es))) (ap (λ x. find nat_cmp x rows) same ∙ none_below row.0 rows parts.0)
          ∙ ap (λ b. cond b (Some row.1) (value_at k es)) (eq-eqb k row.0 same)
          ∙ sym (ap (λ b. or_else (cond b (Some row.1) (find nat_cmp k rows)) (value_at k es)) (unsigned_tied k row.0 ∙ eq-eqb k row.0 same))
      | inr other ↦
          ap (λ b. or_else (find nat_cmp k rows) (cond b (Some row.1) (value_at k es))) (ne_eqb k row.0 other)
          ∙ sym (ap (λ b. or_else (cond b (Some row.1) (find nat_cmp k rows)) (value_at k es)) (unsigned_tied k row.0 ∙ ne_eqb k row.0 other))
    ]

pub or_else_none : (o : Option ℕ) → or_else o None ≡ o
or_else_none None = refl
or_else_none (Some v) = refl

-- Looking a key up in the list `ordered m` and in the map `m` gives the same value.
pub value_at-ordered : (m : Map) (k : ℕ) → value_at k (ordered m) ≡ get m k
value_at-ordered m k = value_at-puts k m.rows [] m.rising ∙ or_else_none (get m k)

-- If a list of pairs rises strictly by `split_cmp`, and looking a key up in the list and in the map
-- `m` always gives the same value, the list equals `ordered m`.
pub ordered_is : (m : Map) (es : List (ℕ × ℕ)) → IsSortedBySplit es → ((k : ℕ) → value_at k es ≡ get m k) → es ≡ ordered m
ordered_is m es sorted same = same_entries split_cmp split_cmp_total split_cmp-IsAntisymmetric es (ordered m) sorted (sorted-ordered m) (λ k. same k ∙ sym (value_at-ordered m k))

length-puts : (rows es : List (ℕ × ℕ)) → T (is_sorted nat_cmp rows) → IsSortedBySplit es → ((k : ℕ) → is_some (find nat_cmp k rows) ≡ true → value_at k es ≡ None) → length (puts es rows) ≡ length es + length rows
length-puts [] es rows_rise es_rise fresh = omega arith
length-puts (row ∷ rows) es rows_rise es_rise fresh =
    let parts = pair_parts (below_all nat_cmp row.0 rows) (is_sorted nat_cmp rows) rows_rise in
    let here : value_at row.0 es ≡ None = fresh row.0 (ap (λ b. is_some (cond b (Some row.1) (find nat_cmp row.0 rows))) (unsigned_tied row.0 row.0 ∙ eq-eqb row.0 row.0 refl)) in
    let longer : length (put split_cmp row.0 row.1 es) ≡ length es + 1 =
    length-put split_cmp split_cmp_total row.0 row.1 es es_rise ∙ ap (λ o. cond (is_some o) (length es) (length es + 1)) here in
    let rest : length (puts (put split_cmp row.0 row.1 es) rows) ≡ length (put split_cmp row.0 row.1 es) + length rows =
    length-puts rows (put split_cmp row.0 row.1 es) parts.1 (is_sorted-put split_cmp split_cmp_total row.0 row.1 es es_rise) (still_fresh parts.0) in
    omega arith
  where
    still_fresh : T (below_all nat_cmp row.0 rows) → (k : ℕ) → is_some (find nat_cmp k rows) ≡ true → value_at k (put split_cmp row.0 row.1 es) ≡ None
    still_fresh below k there = elim (cases_eq k row.0) [
      | inl same ↦ absurd (false≢true (sym (ap is_some (ap (λ x. find nat_cmp x rows) same ∙ none_below row.0 rows below)) ∙ there))
      | inr other ↦
          value_at-put k row.0 row.1 es ∙ ap (λ b. cond b (Some row.1) (value_at k es)) (ne_eqb k row.0 other)
          ∙ fresh k (ap (λ b. is_some (cond b (Some row.1) (find nat_cmp k rows))) (unsigned_tied k row.0 ∙ ne_eqb k row.0 other) ∙ there)
    ]

-- The list `ordered m` has as many pairs as the map `m` has keys.
pub length-ordered : (m : Map) → length (ordered m) ≡ count_of m
length-ordered m = let same : length (puts [] m.rows) ≡ 0 + length m.rows = length-puts m.rows [] m.rising tt (λ k there. refl) in omega arith

-- Each pair's sort key is before the sort keys of all later pairs.
abbrev pub Rises : List (ℕ × ℕ) → Type 0
Rises [] = Unit {0}
Rises (pair ∷ rest) = AllByRecursion (λ (other : ℕ × ℕ). IsBefore (regular_at pair.0) (regular_at other.0)) rest × Rises rest

below_sorted : (pair : ℕ × ℕ) (rest : List (ℕ × ℕ)) → AllByRecursion (λ (other : ℕ × ℕ). IsBefore (regular_at pair.0) (regular_at other.0)) rest → T (below_all split_cmp pair.0 rest)
below_sorted pair [] below = tt
below_sorted pair (other ∷ rest) below = pair_both _ _ (subst (λ o. T (is_lt o)) (sym (split_cmp_less pair.0 other.0 below.0)) tt) (below_sorted pair rest below.1)

-- If a list of pairs rises by sort keys, it rises by `split_cmp` too.
pub sorted-rises : (es : List (ℕ × ℕ)) → Rises es → IsSortedBySplit es
sorted-rises [] rises = tt
sorted-rises (pair ∷ rest) rises = pair_both _ _ (below_sorted pair rest rises.0) (sorted-rises rest rises.1)

-- If a list of pairs rises strictly by sort keys, and looking a key up in the list and in the map
-- `m` always gives the same value, the list equals `ordered m`.
pub ordered_rising : (m : Map) (es : List (ℕ × ℕ)) → Rises es → ((k : ℕ) → value_at k es ≡ get m k) → es ≡ ordered m
ordered_rising m es rises same = ordered_is m es (sorted-rises es rises) same

above_sorted : (k : ℕ) (rest : List (ℕ × ℕ)) → T (below_all split_cmp k rest) → AllByRecursion (λ (other : ℕ × ℕ). IsBefore (regular_at k) (regular_at other.0)) rest
above_sorted k [] below = tt
above_sorted k (other ∷ rest) below =
    let parts = pair_parts (is_lt (split_cmp k other.0)) (below_all split_cmp k rest) below in
    (from (nat_cmp (split k) (split other.0)) refl parts.0, above_sorted k rest parts.1)
  where
    by_keys : (o : Ordering) → nat_cmp k other.0 ≡ o → split k ≡ split other.0 → T (is_lt o) → IsBefore (regular_at k) (regular_at other.0)
    by_keys Less is same less = before_by_key (regular_at k) (regular_at other.0) same (subst (λ r. MatchOrdering r (k < other.0) (k ≡ other.0) (other.0 < k)) is (ranks k other.0))
    by_keys Equal is same less = absurd less
    by_keys Greater is same less = absurd less

    from : (o : Ordering) → nat_cmp (split k) (split other.0) ≡ o → T (is_lt (split_cmp k other.0)) → IsBefore (regular_at k) (regular_at other.0)
    from Less is less = before_by_split (regular_at k) (regular_at other.0) (subst (λ r. MatchOrdering r (split k < split other.0) (split k ≡ split other.0) (split other.0 < split k)) is (ranks (split k) (split other.0)))
    from Equal is less =
        let same : split k ≡ split other.0 = nat_cmp-IsAntisymmetric (split k) (split other.0) is in
        by_keys (nat_cmp k other.0) refl same (subst (λ o. T (is_lt (ordering_then o (nat_cmp k other.0)))) is less)
    from Greater is less = absurd (subst (λ o. T (is_lt (ordering_then o (nat_cmp k other.0)))) is less)

-- If a list of pairs rises by `split_cmp`, it rises by sort keys too.
pub rises-sorted : (es : List (ℕ × ℕ)) → IsSortedBySplit es → Rises es
rises-sorted [] sorted = tt
rises-sorted (pair ∷ rest) sorted =
    let parts = pair_parts (below_all split_cmp pair.0 rest) (is_sorted split_cmp rest) sorted in
    (above_sorted pair.0 rest parts.0, rises-sorted rest parts.1)

-- The pair is in the list.
abbrev pub IsAmong : ℕ × ℕ → List (ℕ × ℕ) → Type 0
IsAmong pair [] = ⊥
IsAmong pair (other ∷ rest) = (other ≡ pair) ⊎ IsAmong pair rest

some_here : (b : Bool) (x y : ℕ) (rest : Option ℕ) → b ≡ true → cond b (Some x) rest ≡ Some y → x ≡ y
some_here b x y rest is found = let same : Some x ≡ Some y = sym (ap (λ t. cond t (Some x) rest) is) ∙ found in cc (same)

among-value_at : (k v : ℕ) (es : List (ℕ × ℕ)) → value_at k es ≡ Some v → IsAmong (k, v) es
among-value_at k v [] is = absurd (cc (is))
among-value_at k v (other ∷ rest) is = elim (cases_eq k other.0) [
  | inl same ↦
      let value : other.1 ≡ v = some_here (eq_by_cmp split_cmp k other.0) other.1 v (value_at k rest) (split_cmp_tied k other.0 ∙ eq-eqb k other.0 same) is in
      inl (λ i. (sym same i, value i))
  | inr away ↦ inr (among-value_at k v rest (sym (ap (λ b. cond b (Some other.1) (value_at k rest)) (split_cmp_tied k other.0 ∙ ne_eqb k other.0 away)) ∙ is))
]

above_among : (k j v : ℕ) (es : List (ℕ × ℕ)) → T (below_all split_cmp k es) → IsAmong (j, v) es → k ≢ j
above_among k j v [] below among = absurd among
above_among k j v (other ∷ rest) below among =
    let parts = pair_parts (is_lt (split_cmp k other.0)) (below_all split_cmp k rest) below in
    elim among [
      | inl here ↦ λ same. subst (λ o. T (is_lt o)) (ap (split_cmp k) (ap (λ (p : ℕ × ℕ). p.0) here ∙ sym same) ∙ tied_itself split_cmp_total k) parts.0
      | inr later ↦ above_among k j v rest parts.1 later
    ]

value_at-among : (k v : ℕ) (es : List (ℕ × ℕ)) → IsSortedBySplit es → IsAmong (k, v) es → value_at k es ≡ Some v
value_at-among k v [] sorted among = absurd among
value_at-among k v (other ∷ rest) sorted among =
    let parts = pair_parts (below_all split_cmp other.0 rest) (is_sorted split_cmp rest) sorted in
    elim among [
      | inl here ↦ ap (λ b. cond b (Some other.1) (value_at k rest)) (split_cmp_tied k other.0 ∙ eq-eqb k other.0 (sym (ap (λ (p : ℕ × ℕ). p.0) here))) ∙ ap (λ (p : ℕ × ℕ). Some p.1) here
      | inr later ↦
          ap (λ b. cond b (Some other.1) (value_at k rest)) (split_cmp_tied k other.0 ∙ ne_eqb k other.0 (λ same. above_among other.0 k v rest parts.0 later (sym same)))
          ∙ value_at-among k v rest parts.1 later
    ]

-- If a list of pairs rises strictly by sort keys and has exactly the pairs of the map `m`, the list
-- equals `ordered m`.
pub ordered_of_pairs : (m : Map) (es : List (ℕ × ℕ)) → Rises es → ((k v : ℕ) → IsAmong (k, v) es → get m k ≡ Some v) → ((k v : ℕ) → get m k ≡ Some v → IsAmong (k, v) es) → es ≡ ordered m
ordered_of_pairs m es rises within all = ordered_rising m es rises (λ k. from k (value_at k es) refl)
  where
    from : (k : ℕ) (o : Option ℕ) → value_at k es ≡ o → o ≡ get m k
    from k (Some v) is = sym (within k v (among-value_at k v es is))
    from k None is = none (get m k) refl
      where
        none : (p : Option ℕ) → get m k ≡ p → None ≡ p
        none None there = refl
        none (Some v) there = absurd (cc (sym is ∙ value_at-among k v es (sorted-rises es rises) (all k v there)))
