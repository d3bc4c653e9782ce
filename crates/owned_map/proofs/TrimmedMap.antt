-- Shows that the map after `trim` is the old map, because the first transaction of the new history
-- puts each of its pairs once: their keys rise.
use Rattle.std.proofs.Common.{◌≡◌, ◌≢◌, ℕ, ◌+◌, ◌<◌, ◌≤◌, ◌==◌, zero, suc, true, false, cond, T, List, [], ◌∷◌, ◌++◌, length, take, drop, slice_index_or, Option, Some, None, refl, sym, ap, subst, ◌∙◌, arith}
use Rattle.std.specs.Prelude.{unwrap_or, Result, Ok, Err, OnOk, IfErr}
use Rattle.std.specs.List.{flat_map, sum_by, range_with_len}
use Rattle.std.specs.FinMap.Entries.{is_sorted, below_all}
use Rattle.std.specs.Ordering.{is_lt, eq_by_cmp}
use Rattle.std.specs.Cmp.{tied_itself}
use Rattle.std.proofs.lemmas.Bool.{cases_eq, eq-eqb, ne_eqb}
use Rattle.std.proofs.lemmas.List.{append-nil, append_assoc, take-append-drop, take_all}
use Rattle.std.proofs.Math.Seq.{drop-cons, take-suc}
use Rattle.std.proofs.lemmas.Grind.{flat_map-append}
use Rattle.std.proofs.lemmas.List.Sums.{sum_by-cons}
use mathlib.Core.Logic.{inl, inr}
use Rattle.txn_words.specs.declared.op.Op.TheVariants.{Put}
use Rattle.txn_words.specs.declared.refusal.Refusal.{Refusal}
use Rattle.txn_words.specs.declared.refusal.Refusal.TheVariants.{AlreadyOpen}
use Rattle.txn_words.specs.declared.step.Step.TheVariants.{Begin, Commit}
use Rattle.txn_words.specs.declared.answer.Answer.TheVariants as answers
use Rattle.txn_words.specs.declared.entry.Entry.{Entry}
use Rattle.txn_words.specs.declared.entry.Entry.TheVariants.{Began, Asked, Did, Committed}
use Rattle.txn_words.specs.declared.stance.Phase.{Phase}
use Rattle.txn_words.specs.declared.stance.Phase.TheVariants.{Closed, Opened, Waiting, LeavingTo, LeavingToEnd}
use Rattle.txn_words.specs.Kinds.{is_began, is_commit}
use Rattle.txn_words.specs.Map.{Map, count_of, get, insert}
use Rattle.txn_trace.specs.Now.{now}
use Rattle.txn_trace.specs.Legal.{IsLegal}
use Rattle.txn_words.specs.Ordered.{split_cmp, ordered}
use Rattle.txn_words.specs.Owed.{owed, owed_by, owed_in}
use Rattle.txn_words.specs.Stances.{is_closed}
use Rattle.txn_words.specs.Shape.{Stance, closed_stance, stance_after, own, how_many}
use Rattle.txn_words.proofs.Maps.{same_map, get-insert}
use Rattle.txn_words.proofs.Order.{split_cmp_total, split_cmp_tied, value_at, IsSortedBySplit, sorted-ordered, value_at-ordered, pair_parts}
use Rattle.boost_core.specs.State.{State, holder_by, stance_in}
use Rattle.boost_core.specs.Machine.{Move}
use Rattle.boost_core.specs.Plain.{Operates}
use Rattle.owned_map.specs.Trimmed.{put_new, filling, IsAtRest, IsNotTrimmed, LacksFor}
use Rattle.owned_map.proofs.Steps.{done}

abbrev history_of : State → List Entry
history_of s = s.history

-- When the first transaction begins, its Began entry is added, with transaction number 1.
pub begun_first : (old new : State) (t : ℕ) → old.history ≡ [] → Move old (Begin 0) (answers.Began t) new → new.history ≡ Began 0 1 ∷ []
begun_first old new t none move =
    ap history_of move.state ∙ ap (λ h. h ++ Began 0 t ∷ []) none
    ∙ ap (λ n. Began 0 n ∷ []) (move.allowed.1 ∙ ap (λ h. how_many is_began h + 1) none)

-- A put of a new key adds its two entries (`put_new`), and inserts the pair into the map.
pub put_once : (old new : State) (k v : ℕ) (x : Option ℕ) → IsLegal (holder_by old.words) old.limits.stripes old.history → Operates old 0 (Put k v) (answers.Done x) new → get (now old.history) k ≡ None
    → (new.history ≡ old.history ++ put_new (k, v)) × (now new.history ≡ insert (now old.history) k v) × (new.limits ≡ old.limits)
put_once old new k v x legal (s1, ask, (s2, seek, (s3, did, last))) fresh =
    let is = done old new 0 (Put k v) x legal (s1, ask, (s2, seek, (s3, did, last))) in
    let none : x ≡ None = is.replied ∙ fresh in (
      ap history_of last ∙ ap history_of did.move.state
          ∙ ap (λ h. h ++ Did 0 x ∷ []) (ap history_of seek.move.state ∙ append-nil s1.history ∙ ap history_of ask.move.state)
          ∙ append_assoc old.history (Asked 0 (Put k v) ∷ []) (Did 0 x ∷ [])
          ∙ ap (λ r. old.history ++ Asked 0 (Put k v) ∷ Did 0 r ∷ []) none,
      is.changed,
      ap (λ (s : State). s.limits) last ∙ ap (λ (s : State). s.limits) did.move.state ∙ ap (λ (s : State). s.limits) seek.move.state ∙ ap (λ (s : State). s.limits) ask.move.state,
    )

-- A commit adds one Committed entry, with the next commit number.
pub committed_first : (old new : State) (p : ℕ) → Move old (Commit 0) (answers.Committed p) new → new.history ≡ old.history ++ Committed 0 (how_many is_commit old.history + 1) ∷ []
committed_first old new p move = ap history_of move.state ∙ ap (λ n. old.history ++ Committed 0 n ∷ []) move.allowed.1

-- The entries that put pairs include no Committed entry.
none_committed : (pairs : List (ℕ × ℕ)) → how_many is_commit (flat_map put_new pairs) ≡ 0
none_committed [] = refl
none_committed (pair ∷ pairs) = none_committed pairs

pub filled : (pairs : List (ℕ × ℕ)) (h : List Entry) → h ≡ Began 0 1 ∷ flat_map put_new pairs → h ++ Committed 0 (how_many is_commit h + 1) ∷ [] ≡ filling pairs
filled pairs h is =
    ap (λ g. g ++ Committed 0 (how_many is_commit g + 1) ∷ []) is
    ∙ ap (λ n. (Began 0 1 ∷ flat_map put_new pairs) ++ Committed 0 (n + 1) ∷ []) (none_committed pairs)

-- If the keys of a list of pairs rise, no pair has the key of an earlier pair.
below_at : (k j v : ℕ) (front back : List (ℕ × ℕ)) → T (below_all split_cmp j (front ++ (k, v) ∷ back)) → k ≢ j
below_at k j v [] back below = λ same. subst (λ o. T (is_lt o)) (ap (split_cmp j) same ∙ tied_itself split_cmp_total j) (pair_parts (is_lt (split_cmp j k)) (below_all split_cmp j back) below).0
below_at k j v (pair ∷ front) back below = below_at k j v front back (pair_parts (is_lt (split_cmp j pair.0)) (below_all split_cmp j (front ++ (k, v) ∷ back)) below).1

pub not_yet : (k v : ℕ) (front back : List (ℕ × ℕ)) → IsSortedBySplit (front ++ (k, v) ∷ back) → value_at k front ≡ None
not_yet k v [] back sorted = refl
not_yet k v (pair ∷ front) back sorted =
    let parts = pair_parts (below_all split_cmp pair.0 (front ++ (k, v) ∷ back)) (is_sorted split_cmp (front ++ (k, v) ∷ back)) sorted in
    ap (λ b. cond b (Some pair.1) (value_at k front)) (split_cmp_tied k pair.0 ∙ ne_eqb k pair.0 (below_at k pair.0 v front back parts.0)) ∙ not_yet k v front back parts.1

pub one_more : (q k v : ℕ) (front : List (ℕ × ℕ)) → value_at k front ≡ None → value_at q (front ++ (k, v) ∷ []) ≡ cond (q == k) (Some v) (value_at q front)
one_more q k v [] none = ap (λ b. cond b (Some v) None) (split_cmp_tied q k)
one_more q k v (pair ∷ front) none = elim (cases_eq k pair.0) [
  | inl same ↦ absurd (some_none (sym (ap (λ b. cond b (Some pair.1) (value_at k front)) (split_cmp_tied k pair.0 ∙ eq-eqb k pair.0 same)) ∙ none))
  | inr other ↦
      let rest : value_at k front ≡ None = sym (ap (λ b. cond b (Some pair.1) (value_at k front)) (split_cmp_tied k pair.0 ∙ ne_eqb k pair.0 other)) ∙ none in
      ap (cond (eq_by_cmp split_cmp q pair.0) (Some pair.1)) (one_more q k v front rest)
      ∙ elim (cases_eq q k) [
        | inl here ↦
            ap (λ b. cond b (Some pair.1) (cond (q == k) (Some v) (value_at q front))) (split_cmp_tied q pair.0 ∙ ne_eqb q pair.0 (λ is. other (sym here ∙ is)))
            ∙ ap (λ b. cond b (Some v) (value_at q front)) (eq-eqb q k here)
            ∙ sym (ap (λ b. cond b (Some v) (value_at q (pair ∷ front))) (eq-eqb q k here))
        | inr away ↦
            ap (λ b. cond (eq_by_cmp split_cmp q pair.0) (Some pair.1) (cond b (Some v) (value_at q front))) (ne_eqb q k away)
            ∙ sym (ap (λ b. cond b (Some v) (value_at q (pair ∷ front))) (ne_eqb q k away))
      ]
]
  where
    some_none : {A : Type 0} {x : A} → Some x ≡ None → ⊥
    some_none is = cc is

-- The first transaction has put exactly these pairs so far. The history and the values of the map
-- are those that result from these pairs.
pub record HasPut (pairs : List (ℕ × ℕ)) (h : List Entry) : Type 0 where
  pub history : h ≡ Began 0 1 ∷ flat_map put_new pairs
  pub values : (q : ℕ) → get (now h) q ≡ value_at q pairs

pub put_none : (h : List Entry) → h ≡ Began 0 1 ∷ [] → HasPut [] h
put_none h is = record { history = is; values = λ q. ap (λ g. get (now g) q) is }

pub put_one : (k v : ℕ) (front : List (ℕ × ℕ)) (h g : List Entry) → HasPut front h → get (now h) k ≡ None → g ≡ h ++ put_new (k, v) → now g ≡ insert (now h) k v → HasPut (front ++ (k, v) ∷ []) g
put_one k v front h g before fresh noted put = record {
  history = noted ∙ ap (λ es. es ++ put_new (k, v)) before.history ∙ sym (ap (λ es. Began 0 1 ∷ es) (flat_map-append put_new front ((k, v) ∷ [])));
  values = λ q.
      ap (λ m. get m q) put ∙ get-insert (now h) k v q ∙ ap (cond (q == k) (Some v)) (before.values q)
      ∙ sym (one_more q k v front (sym (before.values k) ∙ fresh));
}

-- The pairs that `ordered` lists for a map are sorted by their split keys (`IsSortedBySplit`).
pub sorted_listed : (m : Map) (pairs front back : List (ℕ × ℕ)) → pairs ≡ ordered m → front ++ back ≡ pairs → IsSortedBySplit (front ++ back)
sorted_listed m pairs front back is parts = subst IsSortedBySplit (sym (parts ∙ is)) (sorted-ordered m)

plus_one : (i : ℕ) → i + 1 ≡ suc i
plus_one i = omega arith

pub fresh_at : (m : Map) (pairs : List (ℕ × ℕ)) (h : List Entry) (i : ℕ) → pairs ≡ ordered m → i < length pairs → HasPut (take i pairs) h → get (now h) (slice_index_or pairs i (0, 0)).0 ≡ None
fresh_at m pairs h i is less put =
    let pair : ℕ × ℕ = slice_index_or pairs i (0, 0) in
    let parts : take i pairs ++ pair ∷ drop (suc i) pairs ≡ pairs =
    ap (λ rest. take i pairs ++ rest) (sym (drop-cons pairs i (0, 0) less)) ∙ take-append-drop i pairs in
    put.values pair.0 ∙ not_yet pair.0 pair.1 (take i pairs) (drop (suc i) pairs) (sorted_listed m pairs (take i pairs) (pair ∷ drop (suc i) pairs) is parts)

pub put_at : (pairs : List (ℕ × ℕ)) (h g : List Entry) (i : ℕ) → i < length pairs → HasPut (take i pairs) h → get (now h) (slice_index_or pairs i (0, 0)).0 ≡ None
    → g ≡ h ++ put_new (slice_index_or pairs i (0, 0)) → now g ≡ insert (now h) (slice_index_or pairs i (0, 0)).0 (slice_index_or pairs i (0, 0)).1 → HasPut (take (i + 1) pairs) g
put_at pairs h g i less put fresh noted is =
    let pair : ℕ × ℕ = slice_index_or pairs i (0, 0) in
    subst (λ es. HasPut es g) (sym (ap (λ n. take n pairs) (plus_one i) ∙ take-suc pairs i (0, 0) less))
    (put_one pair.0 pair.1 (take i pairs) h g put fresh noted is)

-- If `HasPut` holds for the first `i` pairs of a list, and the list has at most `i` pairs, it holds
-- for the whole list.
pub put_all : (pairs : List (ℕ × ℕ)) (h : List Entry) (i : ℕ) → length pairs ≤ i → HasPut (take i pairs) h → HasPut pairs h
put_all pairs h i all put = subst (λ es. HasPut es h) (take_all i pairs all) put

-- If the pairs of a map were listed, and all of them have been put, the new map is equal to that
-- map.
pub same_listed : (pairs : List (ℕ × ℕ)) (h : List Entry) → HasPut pairs h → (m : Map) → pairs ≡ ordered m → now h ≡ m
same_listed pairs h put m is = same_map (now h) m (λ q. put.values q ∙ ap (value_at q) is ∙ value_at-ordered m q)

-- If `owed_in` is 0 for a phase, a caller in this phase has no transaction.
closed_in : (n : ℕ) (q : Phase) → owed_in n q ≡ 0 → is_closed q ≡ true
closed_in n Closed is = refl
closed_in n Opened is = absurd (omega (arith, is))
closed_in n (Waiting op) is = absurd (omega (arith, is))
closed_in n (LeavingTo m) is = absurd (omega (arith, is))
closed_in n LeavingToEnd is = absurd (omega (arith, is))

open_in : (n : ℕ) (q : Phase) → owed_in n q ≢ 0 → is_closed q ≡ false
open_in n Closed owes = absurd (owes refl)
open_in n Opened owes = refl
open_in n (Waiting op) owes = refl
open_in n (LeavingTo m) owes = refl
open_in n LeavingToEnd owes = refl

closed_by : (o : Option Stance) → owed_by o ≡ 0 → is_closed (unwrap_or o closed_stance).phase ≡ true
closed_by None is = refl
closed_by (Some s) is = closed_in s.standing s.phase is

open_by : (o : Option Stance) → owed_by o ≢ 0 → is_closed (unwrap_or o closed_stance).phase ≡ false
open_by None owes = absurd (owes refl)
open_by (Some s) owes = open_in s.standing s.phase owes

each_zero : (f : ℕ → ℕ) (n a c : ℕ) → sum_by f (range_with_len a n) ≡ 0 → a ≤ c → c < a + n → f c ≡ 0
each_zero f zero a c none low high = absurd (omega (arith, low, high))
each_zero f (suc n) a c none low high = elim (cases_eq c a) [
  | inl same ↦ ap f same ∙ (let both : f a + sum_by f (range_with_len (a + 1) n) ≡ 0 = sym (sum_by-cons f a (range_with_len (a + 1) n)) ∙ none in omega (arith, both))
  | inr other ↦
      let both : f a + sum_by f (range_with_len (a + 1) n) ≡ 0 = sym (sum_by-cons f a (range_with_len (a + 1) n)) ∙ none in
      each_zero f n (a + 1) c (omega (arith, both)) (next other) (omega (arith, high))
]
  where
    next : c ≢ a → a + 1 ≤ c
    next other = omega (arith, low, other)

some_owes : (f : ℕ → ℕ) (n a : ℕ) → sum_by f (range_with_len a n) ≢ 0 → (c : ℕ) × (c < a + n) × (f c ≢ 0)
some_owes f zero a owes = absurd (owes refl)
some_owes f (suc n) a owes = elim (cases_eq (f a) 0) [
  | inl none ↦
      let (c, high, some) = some_owes f n (a + 1) (λ rest. owes (sum_by-cons f a (range_with_len (a + 1) n) ∙ both_none none rest)) in
      (c, omega (arith, high), some)
  | inr some ↦ (a, omega arith, some)
]
  where
    both_none : f a ≡ 0 → sum_by f (range_with_len (a + 1) n) ≡ 0 → f a + sum_by f (range_with_len (a + 1) n) ≡ 0
    both_none none rest = omega (arith, none, rest)

pub at_rest : (s : State) → owed s.limits.callers s.history ≡ 0 → IsAtRest s
at_rest s none c within = closed_by (stance_after (own c s.history)) (each_zero (λ d. owed_by (stance_after (own d s.history))) s.limits.callers 0 c none (omega arith) (omega (arith, within)))

pub some_open : (s : State) → owed s.limits.callers s.history ≢ 0 → (c : ℕ) × (c < s.limits.callers) × (is_closed (stance_in s.history c).phase ≡ false)
some_open s owes =
    let (c, within, some) = some_owes (λ d. owed_by (stance_after (own d s.history))) s.limits.callers 0 owes in
    (c, omega (arith, within), open_by (stance_after (own c s.history)) some)

-- If no caller has a transaction, and the new map cannot take the pairs, `IsNotTrimmed` holds.
not_trimmed : (s : State) (refusal : Refusal) → owed s.limits.callers s.history ≡ 0 → LacksFor (count_of (now s.history)) refusal → IsNotTrimmed s refusal
not_trimmed s AlreadyOpen none lack = absurd lack
not_trimmed s refusal none lack = (at_rest s none, lack)

pub caused : {T : Type 0} (s : State) (result : Result T Refusal) → owed s.limits.callers s.history ≡ 0
    → IfErr result (λ refusal. LacksFor (count_of (now s.history)) refusal) → IfErr result (λ refusal. IsNotTrimmed s refusal)
caused s (Ok value) none lack = tt
caused s (Err refusal) none lack = not_trimmed s refusal none lack

-- If `P` implies `Q`, `OnOk` with `P` implies `OnOk` with `Q`.
pub on_ok : {T E P Q : Type 0} (result : Result T E) → (P → Q) → OnOk result P → OnOk result Q
on_ok (Ok value) follows holds = follows holds
on_ok (Err e) follows holds = tt
