-- Shows that sort keys are in a strict total order, because `is_before` compares split keys as
-- numbers, and then keys. The list layers use these lemmas and do not unfold `is_before`.
use Rattle.std.proofs.Common.{◌≡◌, ◌≢◌, ℕ, ◌%◌, ◌^◌, ◌<◌, ◌≤◌, ◌⊎◌, inl, inr, Bool, true, false, refl, sym, ◌∙◌, ap, ap₂, subst, arith, ◌==◌, nat_lt}
use Rattle.std.proofs.lemmas.Bool.{cases_order}
use Rattle.std.proofs.lemmas.Bool.Decides.{eqb_tells, nat_tests}
use Rattle.split_key.specs.declared.sort.SortKey.{SortKey}
use Rattle.split_key.specs.Split.{reversed, split}
use Rattle.split_key.proofs.SplitLemmas.{lowest_before, lowest_before_key}
use Rattle.split_key.specs.Sort.{is_before, IsBefore, IsNotBefore, is_same, regular_at, dummy_at}

pub true-false : true ≡ false → ⊥
true-false e = cc

pub below_test : (a b : ℕ) → a < b → nat_lt a b ≡ true
below_test a b less = grind (arith, nat_tests)

pub above_test : (a b : ℕ) → b ≤ a → nat_lt a b ≡ false
above_test a b more = grind (arith, nat_tests)

pub same_test : (a b : ℕ) → a ≡ b → (a == b) ≡ true
same_test a b same = elim (eqb_tells a b) [
  | inl here ↦ here.0
  | inr differs ↦ absurd (differs.1 same)
]

pub apart_test : (a b : ℕ) → a ≢ b → (a == b) ≡ false
apart_test a b differs = elim (eqb_tells a b) [
  | inl here ↦ absurd (differs here.1)
  | inr apart ↦ apart.0
]

-- What `is_before` tests: the split key of `a` is lower, or the split keys are equal and the key of
-- `a` is lower.
abbrev pub IsLower : SortKey → SortKey → Type 0
IsLower a b = (a.split < b.split) ⊎ ((a.split ≡ b.split) × (a.key < b.key))

pub by_split : (a b : SortKey) → a.split ≢ b.split → is_before a b ≡ nat_lt a.split b.split
unfolding is_before
by_split a b differ = rw (apart_test a.split b.split differ) refl

pub by_key : (a b : SortKey) → a.split ≡ b.split → is_before a b ≡ nat_lt a.key b.key
unfolding is_before
by_key a b same = rw (same_test a.split b.split same) refl

pub before_from : (a b : SortKey) → IsLower a b → IsBefore a b
before_from a b (inl less) = by_split a b (λ same. omega (arith, same, less)) ∙ below_test a.split b.split less
before_from a b (inr both) = by_key a b both.0 ∙ below_test a.key b.key both.1

not_before_lower : (a b : SortKey) → IsLower b a → IsNotBefore a b
not_before_lower a b (inl less) = by_split a b (λ same. omega (arith, same, less)) ∙ above_test a.split b.split (omega (arith, less))
not_before_lower a b (inr both) = by_key a b (sym both.0) ∙ above_test a.key b.key (omega (arith, both.1))

-- No sort key is before itself.
pub before_irreflexive : (a : SortKey) → IsNotBefore a a
before_irreflexive a = by_key a a refl ∙ above_test a.key a.key (omega arith)

cases_sort : (a b : SortKey) → IsLower a b ⊎ (IsLower b a ⊎ (a ≡ b))
cases_sort a b = elim (cases_order a.split b.split) [
  | inl same ↦ elim (cases_order a.key b.key) [
    | inl one ↦ inr (inr (ap₂ (λ s k. record { split = s; key = k }) same one))
    | inr either ↦ elim either [
      | inl less ↦ inl (inr (same, less))
      | inr more ↦ inr (inl (inr (sym same, more)))
    ]
  ]
  | inr either ↦ elim either [
    | inl less ↦ inl (inl less)
    | inr more ↦ inr (inl (inl more))
  ]
]

pub lower_from : (a b : SortKey) → IsBefore a b → IsLower a b
lower_from a b before = elim (cases_sort a b) [
  | inl lower ↦ lower
  | inr other ↦ elim other [
    | inl higher ↦ absurd (true-false (sym before ∙ not_before_lower a b higher))
    | inr same ↦ absurd (true-false (sym (rw same at before) ∙ before_irreflexive b))
  ]
]

lower_twice : (a b c : SortKey) → IsLower a b → IsLower b c → IsLower a c
lower_twice a b c (inl first) (inl second) = inl (omega (arith, first, second))
lower_twice a b c (inl first) (inr second) = inl (omega (arith, first, second.0))
lower_twice a b c (inr first) (inl second) = inl (omega (arith, first.0, second))
lower_twice a b c (inr first) (inr second) = inr (first.0 ∙ second.0, omega (arith, first.1, second.1))

-- If `a` is before `b` and `b` before `c`, `a` is before `c`.
pub before_transitive : (a b c : SortKey) → IsBefore a b → IsBefore b c → IsBefore a c
before_transitive a b c first second = before_from a c (lower_twice a b c (lower_from a b first) (lower_from b c second))

-- Two sort keys are equal if neither is before the other.
pub before_total : (a b : SortKey) → IsNotBefore a b → IsNotBefore b a → a ≡ b
before_total a b not_first not_second = elim (cases_sort a b) [
  | inl lower ↦ absurd (true-false (sym (before_from a b lower) ∙ not_first))
  | inr other ↦ elim other [
    | inl higher ↦ absurd (true-false (sym (before_from b a higher) ∙ not_second))
    | inr same ↦ same
  ]
]

pub cases_before : (a b : SortKey) → IsBefore a b ⊎ IsNotBefore a b
cases_before a b = go (is_before a b) refl
  where
    go : (test : Bool) → is_before a b ≡ test → IsBefore a b ⊎ IsNotBefore a b
    go true is = inl is
    go false is = inr is

pub before_not_before : (a b : SortKey) → IsBefore a b → IsNotBefore a b → ⊥
before_not_before a b before not_before = true-false (sym before ∙ not_before)

-- Of two sort keys at most one is before the other.
pub before_once : (a b : SortKey) → IsBefore a b → IsNotBefore b a
before_once a b before = elim (cases_before b a) [
  | inl back ↦ absurd (before_not_before a a (before_transitive a b a before back) (before_irreflexive a))
  | inr not_back ↦ not_back
]

-- If one sort key is before another, they differ.
pub before_apart : (a b : SortKey) → IsBefore a b → a ≢ b
before_apart a b before same = before_not_before b b (rw same at before) (before_irreflexive b)

-- If `a` is before `b`, and `c` is not before `b`, then `a` is before `c`.
pub before_behind : (a b c : SortKey) → IsBefore a b → IsNotBefore c b → IsBefore a c
before_behind a b c before not_before = elim (cases_before b c) [
  | inl behind ↦ before_transitive a b c before behind
  | inr not_behind ↦ subst (λ k. IsBefore a k) (before_total b c not_behind not_before) before
]

-- If `b` is not before `a`, and `b` is before `c`, then `a` is before `c`.
pub not_before_before : (a b c : SortKey) → IsNotBefore b a → IsBefore b c → IsBefore a c
not_before_before a b c not_before before = elim (cases_before a b) [
  | inl ahead ↦ before_transitive a b c ahead before
  | inr not_ahead ↦ subst (λ k. IsBefore k c) (sym (before_total a b not_ahead not_before)) before
]

-- If the split key of `a` is below that of `b`, then `a` is before `b`.
pub before_by_split : (a b : SortKey) → a.split < b.split → IsBefore a b
before_by_split a b less = before_from a b (inl less)

-- If the split keys are equal and the key of `a` is below that of `b`, then `a` is before `b`.
pub before_by_key : (a b : SortKey) → a.split ≡ b.split → a.key < b.key → IsBefore a b
before_by_key a b same less = before_from a b (inr (same, less))

-- If `a` is before `b`, the split key of `a` is at most the split key of `b`.
pub split_before : (a b : SortKey) → IsBefore a b → a.split ≤ b.split
split_before a b before = elim (lower_from a b before) [
  | inl less ↦ omega (arith, less)
  | inr both ↦ omega (arith, both.0)
]

-- If two sort keys are equal, `is_same` is true.
pub is_same_from : (a b : SortKey) → a ≡ b → is_same a b ≡ true
is_same_from a b same =
    rw (same_test a.split b.split (ap (λ (k : SortKey). k.split) same), same_test a.key b.key (ap (λ (k : SortKey). k.key) same)) refl

pub same_from_test : (a b : SortKey) → is_same a b ≡ true → a ≡ b
same_from_test a b is = elim (eqb_tells a.split b.split) [
  | inl split_is ↦ elim (eqb_tells a.key b.key) [
    | inl key_is ↦ ap₂ (λ s k. record { split = s; key = k }) split_is.1 key_is.1
    | inr differs ↦ absurd (true-false (sym (rw (split_is.0, differs.0) at is)))
  ]
  | inr differs ↦ absurd (true-false (sym (rw differs.0 at is)))
]

-- `is_same` is true if two sort keys are equal, and false if they differ.
pub cases_same : (a b : SortKey) → ((is_same a b ≡ true) × (a ≡ b)) ⊎ ((is_same a b ≡ false) × (a ≢ b))
cases_same a b = go (is_same a b) refl
  where
    go : (test : Bool) → is_same a b ≡ test → ((is_same a b ≡ true) × (a ≡ b)) ⊎ ((is_same a b ≡ false) × (a ≢ b))
    go true is = inl (is, same_from_test a b is)
    go false is = inr (is, (λ same. true-false (sym (is_same_from a b same) ∙ is)))

nonzero_above : (n : ℕ) → n ≢ 0 → 0 < n
nonzero_above n other = elim (cases_order 0 n) [
  | inl same ↦ absurd (other (sym same))
  | inr either ↦ elim either [ inl less ↦ less | inr more ↦ absurd (omega arith) ]
]

-- The dummy of bucket 0 is before every other dummy.
pub first_before_dummy : (bucket : ℕ) → bucket < 2 ^ 32 → bucket ≢ 0 → IsBefore (dummy_at 0) (dummy_at bucket)
first_before_dummy bucket fits other =
    let none : bucket % 2 ^ 0 ≡ 0 = omega arith in
    let lower = lowest_before 0 bucket (omega arith) (omega arith) (omega (arith, nonzero_above bucket other)) in
    before_by_split (dummy_at 0) (dummy_at bucket) (subst (λ low. reversed low < reversed bucket) none lower)

-- The dummy of bucket 0 is before every key.
pub first_before_key : (key : ℕ) → IsBefore (dummy_at 0) (regular_at key)
first_before_key key =
    let none : key % 2 ^ 0 ≡ 0 = omega arith in
    let lower = lowest_before_key 0 key (omega arith) in
    before_by_split (dummy_at 0) (regular_at key) (subst (λ low. reversed low < split key) none lower)
