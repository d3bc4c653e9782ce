-- Shows that a verdict's counts are those of the entries and stances, because a Began opens one
-- transaction with the next number, and only its caller's end closes it.
use Rattle.std.proofs.Common.{◌≡◌, ◌≢◌, ℕ, zero, suc, ◌+◌, ◌<◌, ◌≤◌, ◌==◌, Bool, true, false, cond, not, List, [], ◌∷◌, ◌++◌, length, max, refl, ap, sym, subst, ◌∙◌, Some, None, Option, is_some, arith, length-append}
use Rattle.std.specs.Option.{option_and_then}
use Rattle.std.specs.List.{cons_option, list_any, sum_by, range_with_len}
use Rattle.std.proofs.lemmas.Bool.{false≢true, cases_Bool, eqb-true, or_cases}
use Rattle.std.proofs.lemmas.List.{append-nil}
use Rattle.std.proofs.lemmas.List.Sums.{sum_by_push, fold-append}
use mathlib.Core.Logic.{inl, inr}
use Rattle.txn_words.specs.declared.entry.Entry.{Entry}
use Rattle.txn_trace.specs.History.{is_open, txns_of, commits, open_txns}
use Rattle.txn_words.specs.Kinds.{caller_of, is_began, is_commit}
use Rattle.txn_words.specs.Shape.{Stance, row, stance_after, own, how_many, is_shaped, IsShaped}
use Rattle.txn_trace.specs.Legal.{is_running, callers_in, running}
use Rattle.txn_trace.proofs.Pushes.{txn_in, txn_at, how_many-push}
use Rattle.txn_trace.proofs.Callers.{Callers, is_end, ended, is_open-ended, not_after_end, shaped_stance, shaped_number, began_or_not, began_number, at_is, not_began_is, some_same, other_runs, end_closes, began_was_closed, end_not_began}
use Rattle.txn_trace.proofs.Shaped.{callers_of, ended_in, ended_out, stance_of_mine, stance_of_other}
use Rattle.txn_trace.proofs.Steps.{txns_of-push, commits_are, are_listed}
use Rattle.txn_trace.proofs.Inductions.{by_entries}
use Rattle.txn_trace.proofs.Running.{has_txn}
use Rattle.txn_trace.proofs.Sums.{sum_same, sum_at, length-filter}
use Rattle.txn_trace.proofs.Holders.{ended-push}
use Rattle.txn_trace.proofs.RuleBreaks.{row_active}

-- The number of committed transactions is the number of `Committed` entries.
pub length-commits : (h : List Entry) → IsShaped h → length (commits h) ≡ how_many is_commit h
length-commits h shape = ap length (commits_are h shape) ∙ by_entries (λ g. length (txns_of is_commit g) ≡ how_many is_commit g) step refl h shape
  where
    step : (g : List Entry) (e : Entry) → IsShaped g → Callers g → is_shaped g e ≡ true → length (txns_of is_commit g) ≡ how_many is_commit g → length (txns_of is_commit (g ++ e ∷ [])) ≡ how_many is_commit (g ++ e ∷ [])
    step g e shape callers shaped was =
        let there = has_txn g e shape shaped in
        ap length (txns_of-push is_commit g e)
        ∙ length-append (txns_of is_commit g) (cons_option (cond (is_commit e) (txn_at g e) None) [])
        ∙ ap (λ o. length (txns_of is_commit g) + length (cons_option (cond (is_commit e) o None) [])) there.1
        ∙ ap (λ n. n + length (cons_option (cond (is_commit e) (Some there.0) None) [])) was
        ∙ ap (λ n. how_many is_commit g + n) (one (is_commit e) there.0) ∙ sym (how_many-push is_commit g e)
      where
        one : (b : Bool) (t : ℕ) → length (cons_option (cond b (Some t) None) []) ≡ cond b 1 0
        one true t = refl
        one false t = refl

range_more : (a n : ℕ) → range_with_len a (suc n) ≡ range_with_len a n ++ (a + n) ∷ []
range_more a zero = let same : a ≡ a + 0 = omega arith in ap (λ x. x ∷ []) same
range_more a (suc n) = let same : a + 1 + n ≡ a + suc n = omega arith in ap (λ xs. a ∷ xs) (range_more (a + 1) n ∙ ap (λ x. range_with_len (a + 1) n ++ x ∷ []) same)

any_range : (t a n : ℕ) → list_any (λ u. u == t) (range_with_len a n) ≡ true → a ≤ t × t < a + n
any_range t a zero there = absurd (false≢true there)
any_range t a (suc n) there = elim (or_cases (a == t) _ there) [
  | inl here ↦ let same : a ≡ t = eqb-true a t here in (omega arith, omega arith)
  | inr later ↦ let rest = any_range t (a + 1) n later in let low = rest.0 in let high = rest.1 in (omega arith, omega arith)
]

-- Transactions are numbered from 1, in the order of their Began entries.
pub began_txns : (h : List Entry) → IsShaped h → txns_of is_began h ≡ range_with_len 1 (how_many is_began h)
began_txns h shape = by_entries (λ g. txns_of is_began g ≡ range_with_len 1 (how_many is_began g)) step refl h shape
  where
    step : (g : List Entry) (e : Entry) → IsShaped g → Callers g → is_shaped g e ≡ true → txns_of is_began g ≡ range_with_len 1 (how_many is_began g) → txns_of is_began (g ++ e ∷ []) ≡ range_with_len 1 (how_many is_began (g ++ e ∷ []))
    step g e shape callers shaped was = elim (began_or_not e) [
      | inl b ↦
          let there = has_txn g e shape shaped in
          let number : there.0 ≡ how_many is_began g + 1 = began_number g e there.0 b (shaped_number g e shaped) (at_is g e there.0 there.1) in
          let longer : how_many is_began (g ++ e ∷ []) ≡ suc (how_many is_began g) = (let n = how_many-push is_began g e ∙ ap (λ x. how_many is_began g + cond x 1 0) b in omega arith) in
          let last : there.0 ≡ 1 + how_many is_began g = omega arith in
          txns_of-push is_began g e ∙ ap (λ x. txns_of is_began g ++ cons_option (cond x (txn_at g e) None) []) b ∙ ap (λ o. txns_of is_began g ++ cons_option o []) there.1
          ∙ ap (λ xs. xs ++ there.0 ∷ []) was ∙ ap (λ t. range_with_len 1 (how_many is_began g) ++ t ∷ []) last ∙ sym (range_more 1 (how_many is_began g)) ∙ ap (range_with_len 1) (sym longer)
      | inr b ↦
          let same : how_many is_began (g ++ e ∷ []) ≡ how_many is_began g = (let n = how_many-push is_began g e ∙ ap (λ x. how_many is_began g + cond x 1 0) b in omega arith) in
          txns_of-push is_began g e ∙ ap (λ x. txns_of is_began g ++ cons_option (cond x (txn_at g e) None) []) b ∙ append-nil (txns_of is_began g) ∙ was ∙ ap (range_with_len 1) (sym same)
    ]

-- 1 if a test holds, else 0.
abbrev pub one_if : Bool → ℕ
one_if b = cond b 1 0

abbrev opens : List Entry → ℕ
opens h = sum_by (λ t. one_if (is_open t h)) (range_with_len 1 (how_many is_began h))

abbrev in_txns : ℕ → List Entry → ℕ
in_txns callers h = sum_by (λ c. one_if (is_running (stance_after (own c h)))) (range_with_len 0 callers)

pub callers_in-push : (g : List Entry) (e : Entry) → callers_in (g ++ e ∷ []) ≡ max (callers_in g) (caller_of e + 1)
callers_in-push g e = fold-append (λ n f. max n (caller_of f + 1)) 0 g (e ∷ [])

module _ (n : ℕ) (g : List Entry) (e : Entry) (shape : IsShaped g) (callers : Callers g) (shaped : is_shaped g e ≡ true) (within : caller_of e < n) where
  others_run : (d : ℕ) → d ≢ caller_of e → one_if (is_running (stance_after (own d g))) ≡ one_if (is_running (stance_after (own d (g ++ e ∷ []))))
  others_run d other = ap (λ o. one_if (is_running o)) (sym (stance_of_other g e callers shaped d other))

  change : in_txns n (g ++ e ∷ []) + one_if (is_running (stance_after (own (caller_of e) g))) ≡ in_txns n g + one_if (is_running (stance_after (own (caller_of e) (g ++ e ∷ []))))
  change = sum_at (λ d. one_if (is_running (stance_after (own d g)))) (λ d. one_if (is_running (stance_after (own d (g ++ e ∷ []))))) (caller_of e) 0 n (omega arith) (omega arith) others_run

  after_stance : stance_after (own (caller_of e) (g ++ e ∷ [])) ≡ option_and_then (λ (s : Stance). row s s.phase e) (stance_after (own (caller_of e) g))
  after_stance = stance_of_mine g e callers shaped (caller_of e) refl

  runs_after : is_end e ≡ false → one_if (is_running (stance_after (own (caller_of e) (g ++ e ∷ [])))) ≡ 1
  runs_after goes = ap (λ o. one_if (is_running o)) after_stance ∙ ap one_if (other_runs e (stance_after (own (caller_of e) g)) goes (shaped_stance g e shaped))

  stops_after : is_end e ≡ true → one_if (is_running (stance_after (own (caller_of e) (g ++ e ∷ [])))) ≡ 0
  stops_after ends = ap (λ o. one_if (is_running o)) (after_stance ∙ end_closes e (stance_after (own (caller_of e) g)) ends (shaped_stance g e shaped))

  closed_before_it : is_began e ≡ true → one_if (is_running (stance_after (own (caller_of e) g))) ≡ 0
  closed_before_it b = ap one_if (began_was_closed e (stance_after (own (caller_of e) g)) b (shaped_stance g e shaped))

  runs_before : is_began e ≡ false → one_if (is_running (stance_after (own (caller_of e) g))) ≡ 1
  runs_before b = ap one_if (at (stance_after (own (caller_of e) g)) (shaped_stance g e shaped))
    where
      at : (o : Option Stance) → is_some (option_and_then (λ (s : Stance). row s s.phase e) o) ≡ true → is_running o ≡ true
      at None h = absurd (false≢true h)
      at (Some s) h = row_active s s.phase e b h

  same_open : is_end e ≡ false → (u : ℕ) → one_if (is_open u (g ++ e ∷ [])) ≡ one_if (is_open u g)
  same_open goes u = ap one_if (is_open-ended u (g ++ e ∷ []) ∙ ap not (ended-push 0 g e callers shaped goes u) ∙ sym (is_open-ended u g))

  same_count : is_began e ≡ false → how_many is_began (g ++ e ∷ []) ≡ how_many is_began g
  same_count b = let n = how_many-push is_began g e ∙ ap (λ x. how_many is_began g + cond x 1 0) b in omega arith

  count_push : opens g ≡ in_txns n g → opens (g ++ e ∷ []) ≡ in_txns n (g ++ e ∷ [])
  count_push was = elim (began_or_not e) [
    | inl b ↦
        let goes : is_end e ≡ false = began_goes e b in
        let there = has_txn g e shape shaped in
        let number : there.0 ≡ how_many is_began g + 1 = began_number g e there.0 b (shaped_number g e shaped) (at_is g e there.0 there.1) in
        let longer : how_many is_began (g ++ e ∷ []) ≡ suc (how_many is_began g) = (let k = how_many-push is_began g e ∙ ap (λ x. how_many is_began g + cond x 1 0) b in omega arith) in
        let new_one : one_if (is_open (1 + how_many is_began g) (g ++ e ∷ [])) ≡ 1 =
        (let last : 1 + how_many is_began g ≡ there.0 = omega arith in
        ap (λ t. one_if (is_open t (g ++ e ∷ []))) last ∙ ap one_if (is_open-ended there.0 (g ++ e ∷ []) ∙ ap not (ended_in g e callers shaped there.0 there.1 ∙ goes))) in
        let split : opens (g ++ e ∷ []) ≡ sum_by (λ t. one_if (is_open t (g ++ e ∷ []))) (range_with_len 1 (how_many is_began g)) + one_if (is_open (1 + how_many is_began g) (g ++ e ∷ [])) =
        ap (λ k. sum_by (λ t. one_if (is_open t (g ++ e ∷ []))) (range_with_len 1 k)) longer
        ∙ ap (sum_by (λ t. one_if (is_open t (g ++ e ∷ [])))) (range_more 1 (how_many is_began g)) ∙ sum_by_push (λ t. one_if (is_open t (g ++ e ∷ []))) (range_with_len 1 (how_many is_began g)) (1 + how_many is_began g) in
        let front : sum_by (λ t. one_if (is_open t (g ++ e ∷ []))) (range_with_len 1 (how_many is_began g)) ≡ opens g =
        sum_same (λ t. one_if (is_open t (g ++ e ∷ []))) (λ t. one_if (is_open t g)) 1 (how_many is_began g) (λ u low high. same_open goes u) in
        omega (arith, was, change, runs_after goes, closed_before_it b)
    | inr b ↦ elim (cases_Bool (is_end e)) [
      | inr goes ↦
          let opened : opens (g ++ e ∷ []) ≡ opens g =
          ap (λ k. sum_by (λ t. one_if (is_open t (g ++ e ∷ []))) (range_with_len 1 k)) (same_count b)
          ∙ sum_same (λ t. one_if (is_open t (g ++ e ∷ []))) (λ t. one_if (is_open t g)) 1 (how_many is_began g) (λ u low high. same_open goes u) in
          omega (arith, was, change, runs_after goes, runs_before b)
      | inl ends ↦
          let there = has_txn g e shape shaped in
          let t : ℕ = there.0 in
          let in_t : txn_in g (caller_of e) ≡ Some t = not_began_is g e t b (at_is g e t there.1) in
          let place = any_range t 1 (how_many is_began g) (subst (λ xs. list_any (λ u. u == t) xs ≡ true) (began_txns g shape) (are_listed g (caller_of e) t in_t)) in
          let low = place.0 in
          let high = place.1 in
          let before : one_if (is_open t g) ≡ 1 = ap one_if (is_open-ended t g ∙ ap not (not_ended_at t there.1)) in
          let after : one_if (is_open t (g ++ e ∷ [])) ≡ 0 = ap one_if (is_open-ended t (g ++ e ∷ []) ∙ ap not (ended_in g e callers shaped t there.1 ∙ ends)) in
          let others : (u : ℕ) → u ≢ t → one_if (is_open u g) ≡ one_if (is_open u (g ++ e ∷ [])) = λ u away.
          ap one_if (is_open-ended u g ∙ ap not (sym (ended_out g e callers shaped u (λ in_u. away (some_same u t (sym in_u ∙ there.1))))) ∙ sym (is_open-ended u (g ++ e ∷ []))) in
          let sums = sum_at (λ u. one_if (is_open u g)) (λ u. one_if (is_open u (g ++ e ∷ []))) t 1 (how_many is_began g) low high others in
          let opened : opens (g ++ e ∷ []) ≡ sum_by (λ u. one_if (is_open u (g ++ e ∷ []))) (range_with_len 1 (how_many is_began g)) =
          ap (λ k. sum_by (λ u. one_if (is_open u (g ++ e ∷ []))) (range_with_len 1 k)) (same_count b) in
          omega (arith, was, change, stops_after ends, runs_before b)
    ]
  ]
    where
      began_goes : (f : Entry) → is_began f ≡ true → is_end f ≡ false
      began_goes f b = elim (cases_Bool (is_end f)) [ inl ends ↦ absurd (false≢true (sym (end_not_began f ends) ∙ b)) | inr goes ↦ goes ]

      not_ended_at : (t : ℕ) → txn_at g e ≡ Some t → ended t g ≡ false
      not_ended_at t at = elim (cases_Bool (ended t g)) [ inl done ↦ absurd (not_after_end g e t callers shaped done at) | inr going ↦ going ]

counted : (n : ℕ) (h : List Entry) → IsShaped h → callers_in h ≤ n → opens h ≡ in_txns n h
counted n h shape = by_entries (λ g. callers_in g ≤ n → opens g ≡ in_txns n g) step none h shape
  where
    none : 0 ≤ n → 0 ≡ in_txns n []
    none low = sym (zeros 0 n)
      where
        zeros : (a k : ℕ) → sum_by (λ c. one_if (is_running (stance_after (own c [])))) (range_with_len a k) ≡ 0
        zeros a zero = refl
        zeros a (suc k) = zeros (a + 1) k

    step : (g : List Entry) (e : Entry) → IsShaped g → Callers g → is_shaped g e ≡ true → (callers_in g ≤ n → opens g ≡ in_txns n g) → callers_in (g ++ e ∷ []) ≤ n → opens (g ++ e ∷ []) ≡ in_txns n (g ++ e ∷ [])
    step g e shape callers shaped was within =
        let bound : max (callers_in g) (caller_of e + 1) ≤ n = subst (λ k. k ≤ n) (callers_in-push g e) within in
        count_push n g e shape callers shaped (omega arith) (was (omega arith))

-- If all callers of the history are below `n`, the number of open transactions is the number of
-- callers below `n` that are not closed.
pub length-open_txns : (n : ℕ) (h : List Entry) → IsShaped h → callers_in h ≤ n → length (open_txns h) ≡ length (running n h)
length-open_txns n h shape within =
    length-filter (λ t. is_open t h) (txns_of is_began h) ∙ ap (sum_by (λ t. one_if (is_open t h))) (began_txns h shape) ∙ counted n h shape within
    ∙ sym (length-filter (λ c. is_running (stance_after (own c h))) (range_with_len 0 n))

-- If `n` is at least `callers_in h`, the number of callers below `n` that are not closed is the
-- same as the number of those below `callers_in h`.
pub length-running : (n : ℕ) (h : List Entry) → IsShaped h → callers_in h ≤ n → length (running n h) ≡ length (running (callers_in h) h)
length-running n h shape within = let same : callers_in h ≤ callers_in h = omega arith in sym (length-open_txns n h shape within) ∙ length-open_txns (callers_in h) h shape same

-- A `Began` adds one to the number of callers that are not closed. The end of a transaction
-- subtracts one. Every other entry leaves the number unchanged.
pub length-running-push : (g : List Entry) (e : Entry) → IsShaped g → is_shaped g e ≡ true
    → length (running (callers_in (g ++ e ∷ [])) (g ++ e ∷ [])) + one_if (is_end e) ≡ length (running (callers_in g) g) + one_if (is_began e)
length-running-push g e shape shaped = elim (began_or_not e) [
  | inl b ↦
      let goes : is_end e ≡ false = began_goes_on e b in
      let ends : one_if (is_end e) ≡ 0 = ap one_if goes in
      let begins : one_if (is_began e) ≡ 1 = ap one_if b in
      omega (arith, ends, begins, changed, after, before, runs_after n g e shape callers shaped within goes, closed_before_it n g e shape callers shaped within b)
  | inr b ↦
      let begins : one_if (is_began e) ≡ 0 = ap one_if b in
      let was = runs_before n g e shape callers shaped within b in
      elim (cases_Bool (is_end e)) [
        | inl ends ↦ let one : one_if (is_end e) ≡ 1 = ap one_if ends in omega (arith, one, begins, was, changed, after, before, stops_after n g e shape callers shaped within ends)
        | inr goes ↦ let none : one_if (is_end e) ≡ 0 = ap one_if goes in omega (arith, none, begins, was, changed, after, before, runs_after n g e shape callers shaped within goes)
      ]
]
  where
    n : ℕ
    n = callers_in (g ++ e ∷ [])

    callers : Callers g
    callers = callers_of g shape

    grown : callers_in (g ++ e ∷ []) ≡ max (callers_in g) (caller_of e + 1)
    grown = callers_in-push g e

    within : caller_of e < n
    within = omega (arith, grown)

    changed : in_txns n (g ++ e ∷ []) + one_if (is_running (stance_after (own (caller_of e) g))) ≡ in_txns n g + one_if (is_running (stance_after (own (caller_of e) (g ++ e ∷ []))))
    changed = change n g e shape callers shaped within

    after : length (running n (g ++ e ∷ [])) ≡ in_txns n (g ++ e ∷ [])
    after = length-filter (λ c. is_running (stance_after (own c (g ++ e ∷ [])))) (range_with_len 0 n)

    before : length (running (callers_in g) g) ≡ in_txns n g
    before = let wider : callers_in g ≤ n = omega (arith, grown) in sym (length-running n g shape wider) ∙ length-filter (λ c. is_running (stance_after (own c g))) (range_with_len 0 n)

    began_goes_on : (f : Entry) → is_began f ≡ true → is_end f ≡ false
    began_goes_on f b = elim (cases_Bool (is_end f)) [ inl ends ↦ absurd (false≢true (sym (end_not_began f ends) ∙ b)) | inr goes ↦ goes ]
