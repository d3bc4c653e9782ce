-- Besides its history, the core has counts of transactions and of the entries that are owed. It
-- also notes which callers have begun a transaction.
use Rattle.std.proofs.Common.{◌≡◌, ◌+◌, ◌≤◌, ℕ, Bool, true, false, Result, Ok, Err, List, length, arith, is_err, OnOk, OnErr, suc, [], ◌∷◌, Some, refl, sym, ap, ◌∙◌, slice_get, sum_by, ◌<◌, ◌++◌, replicate, Option, None, option_to_list, lt-ltb, append-nil, length-set, get_or-set_same, get_or-set_other, inl, inr}
use Rattle.boost_core.proofs.Vocabulary.{length-filter, count_by-le-length, Entry, is_began, is_commit, how_many, World, Tells, range_with_len, sum_by-cons, stance_after, own, owed_by, owed, owed_of, or-false, cases_eq, cases_lt, or_right, length-replicate, get_or-replicate, get_or_past, caller_of, Began, has_begun, has_begun-own, has_begun-other}
use Rattle.boost_core.specs.Begun.{begun_with, AreNoted}

how_many_bound : (test : Entry → Bool) (h : List Entry) → how_many test h ≤ length h
how_many_bound test h = omega (arith, length-filter test h, count_by-le-length test h)

pub began_bound : (w : World) → Tells w → w.counts.began ≤ length w.history
began_bound w tells = omega (arith, tells.begins, how_many_bound is_began w.history)

pub committed_bound : (w : World) → Tells w → w.counts.committed ≤ length w.history
committed_bound w tells = omega (arith, tells.commits, how_many_bound is_commit w.history)

-- A count that grows by 0 is unchanged.
pub no_more : (n : ℕ) → n ≡ n + 0
no_more n = omega arith

-- If `OnOk` holds for a result that is not an error, its statement `P` holds.
pub when_ok : {A E P : Type 0} (r : Result A E) → false ≡ is_err r → OnOk r P → P
when_ok (Ok a) fine p = p
when_ok (Err e) fine p = absurd (cc (fine))

-- If `OnErr` holds for a result that is an error, its statement `P` holds.
pub when_err : {A E P : Type 0} (r : Result A E) → true ≡ is_err r → OnErr r P → P
when_err (Ok a) wrong p = absurd (cc (wrong))
when_err (Err e) wrong p = p

-- If `f` at each position of a list equals `g` of the element there, the sum of `f` over the
-- positions is the sum of `g` over the elements.
sum_of_places : {X : Type 0} (f : ℕ → ℕ) (g : X → ℕ) (a : ℕ) (xs : List X) → ((i : ℕ) (x : X) → slice_get xs i ≡ Some x → f (a + i) ≡ g x) → sum_by f (range_with_len a (length xs)) ≡ sum_by g xs
sum_of_places f g a [] same = refl
sum_of_places f g a (x ∷ xs) same =
    let here : a ≡ a + 0 = omega arith in
    let first : f a ≡ g x = ap f here ∙ same 0 x refl in
    let later : (i : ℕ) → a + 1 + i ≡ a + suc i = λ i. omega arith in
    let rest : sum_by f (range_with_len (a + 1) (length xs)) ≡ sum_by g xs = sum_of_places f g (a + 1) xs (λ i y at. ap f (later i) ∙ same (suc i) y at) in
    sum_by-cons f a (range_with_len (a + 1) (length xs)) ∙ ap (λ n. n + sum_by f (range_with_len (a + 1) (length xs))) first ∙ ap (λ n. g x + n) rest ∙ sym (sum_by-cons g x xs)

from_none : (c : ℕ) → 0 + c ≡ c
from_none c = omega arith

pub owed_is : (w : World) → Tells w → owed w.limits.callers w.history ≡ sum_by owed_of w.sessions
owed_is w tells =
    ap (λ n. sum_by (λ c. owed_by (stance_after (own c w.history))) (range_with_len 0 n)) (sym tells.count)
    ∙ sum_of_places (λ c. owed_by (stance_after (own c w.history))) owed_of 0 w.sessions (λ c s at. ap (λ k. owed_by (stance_after (own k w.history))) (from_none c) ∙ ap owed_by (tells.its_stance c s at).stance)

-- An entry other than `Began` does not change which callers have begun a transaction.
stays : (c : ℕ) (h : List Entry) (e : Entry) → is_began e ≡ false → has_begun c (h ++ e ∷ []) ≡ has_begun c h
stays c h e begins = elim (cases_eq c (caller_of e)) [
  | inl mine ↦ rw (mine, has_begun-own h e, begins) (or-false (has_begun (caller_of e) h))
  | inr other ↦ has_begun-other c h e other
]

pub noted_same : (callers : ℕ) (h : List Entry) (begun : List Bool) (e : Entry) → is_began e ≡ false → AreNoted callers h begun → AreNoted callers (h ++ e ∷ []) begun
noted_same callers h begun e begins was = record { many = was.many; each = λ c. was.each c ∙ sym (stays c h e begins) }

-- If an entry is added, the flags that `begun_with` gives fit the new history (`AreNoted`).
noted_push : (callers : ℕ) (h : List Entry) (begun : List Bool) (e : Entry) → AreNoted callers h begun → caller_of e < callers → AreNoted callers (h ++ e ∷ []) (begun_with begun (Some e))
noted_push callers h begun (Began d t) was below =
    let within : d < length begun = omega (arith, was.many) in rw (lt-ltb d (length begun) within) (record {
      many = length-set begun d true ∙ was.many;
      each = λ c. elim (cases_eq c d) [
        | inl mine ↦ rw mine (get_or-set_same begun d true false within ∙ sym (or_right (has_begun d h) true refl) ∙ sym (has_begun-own h (Began d t)))
        | inr other ↦ get_or-set_other begun d c true false other ∙ was.each c ∙ sym (has_begun-other c h (Began d t) other)
      ];
    })
noted_push callers h begun e was below = noted_same callers h begun e refl was

-- If a step adds at most one entry, the flags that `begun_with` gives fit the new history
-- (`AreNoted`).
pub noted_then : (callers : ℕ) (h h' : List Entry) (begun begun' : List Bool) (o : Option Entry) → AreNoted callers h begun → h' ≡ h ++ option_to_list o → begun' ≡ begun_with begun o → ((e : Entry) → o ≡ Some e → caller_of e < callers) → AreNoted callers h' begun'
noted_then callers h h' begun begun' None was pushed noted below = rw (pushed, append-nil h, noted) was
noted_then callers h h' begun begun' (Some e) was pushed noted below = rw (pushed, noted) (noted_push callers h begun e was (below e refl))

-- If no caller's flag is set, the flags fit the empty history (`AreNoted`).
pub noted_none : (callers : ℕ) (begun : List Bool) → begun ≡ replicate callers false → AreNoted callers [] begun
noted_none callers begun is = rw is (record {
  many = length-replicate callers false;
  each = λ c. elim (cases_lt c callers) [
    | inl within ↦ get_or-replicate callers c false false within
    | inr past ↦ get_or_past (replicate callers false) c false (omega (arith, length-replicate callers false))
  ];
})
