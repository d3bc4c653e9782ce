-- Shows that a history is legal exactly if it has no bad entry, because each rule is one about all
-- beginnings of the history, and `broken` tests the next one.
use Rattle.std.proofs.Common.{◌≡◌, ℕ, ◌+◌, ◌==◌, Bool, true, false, cond, not, List, [], ◌∷◌, ◌++◌, map, refl, ap, sym, subst, ◌∙◌, Some, None, Option, IsSome, is_some, append_assoc}
use Rattle.std.specs.List.{filter, list_any, list_all, AllByRecursion}
use Rattle.std.specs.Prelude.{◌↔◌}
use Rattle.std.proofs.lemmas.Bool.{false≢true, eqb-true, and_parts, and_from, or_cases}
use Rattle.std.proofs.lemmas.List.{append-nil}
use mathlib.Core.Logic.{◌⊎◌, inl, inr}
use mathlib.Core.List.{IsPrefix}
use Rattle.txn_words.specs.declared.entry.Entry.{Entry}
use Rattle.txn_words.specs.declared.holder.Holder.{Holder}
use Rattle.txn_trace.specs.History.{Line, lines_of, is_of, of, txns_of, is_open, open_txns}
use Rattle.txn_words.specs.Kinds.{caller_of, is_began}
use Rattle.txn_trace.specs.Alone.{alone}
use Rattle.txn_trace.specs.Serial.{serial}
use Rattle.txn_trace.specs.Replies.{RepliesHoldAt}
use Rattle.txn_trace.specs.Locks.{LocksHold, is_locked}
use Rattle.txn_words.specs.Shape.{is_shaped, IsShaped}
use Rattle.txn_trace.specs.Legal.{IsLegal, replies_hold, broken, first_bad, first_bad_by}
use Rattle.txn_trace.proofs.Pushes.{txn_in, of_is}
use Rattle.txn_trace.proofs.Callers.{IsOwned, ended}
use Rattle.txn_trace.proofs.Shaped.{callers_of}
use Rattle.txn_trace.proofs.Steps.{are_listed}
use Rattle.txn_trace.proofs.Now.{any-filter, going_open}

-- If `g` is a prefix of `h ++ e ∷ []`, it is a prefix of `h`, or it is the whole list.
pub prefix_push : {A : Type 0} (g h : List A) (e : A) → IsPrefix g (h ++ e ∷ []) → IsPrefix g h ⊎ (g ≡ h ++ e ∷ [])
prefix_push [] h e p = inl (h, refl)
prefix_push (x ∷ []) [] e p = inr (cc (p.1))
prefix_push (x ∷ y ∷ g) [] e p = absurd (cc (p.1))
prefix_push (x ∷ g) (y ∷ h) e p =
    let same : x ≡ y = cc (p.1) in
    elim (prefix_push g h e (p.0, cc (p.1))) [
      | inl q ↦ inl (q.0, cc (same, q.1))
      | inr q ↦ inr (cc (same, q))
    ]

pub last_same : {A : Type 0} (g h : List A) (x y : A) → g ++ x ∷ [] ≡ h ++ y ∷ [] → (g ≡ h) × (x ≡ y)
last_same [] [] x y is = (refl, cc (is))
last_same [] (z ∷ []) x y is = absurd (cc (is))
last_same [] (z ∷ w ∷ h) x y is = absurd (cc (is))
last_same (z ∷ []) [] x y is = absurd (cc (is))
last_same (z ∷ w ∷ g) [] x y is = absurd (cc (is))
last_same (z ∷ g) (w ∷ h) x y is =
    let heads : z ≡ w = cc (is) in
    let rest = last_same g h x y (cc (is)) in
    (cc (heads, rest.0), rest.1)

-- If one more entry after a legal history breaks no rule, the history with this entry is legal.
pub legal_push : {holder : Holder} (stripes : ℕ) (h : List Entry) (e : Entry) → IsLegal holder stripes h → is_shaped h e ≡ true → is_locked holder stripes h e ≡ true → RepliesHoldAt (h ++ e ∷ []) → IsLegal holder stripes (h ++ e ∷ [])
legal_push {holder} stripes h e legal shaped locked hold = record {
  replies = λ g p. elim (prefix_push g h e p) [ inl q ↦ legal.replies g q | inr q ↦ subst RepliesHoldAt (sym q) hold ];
  locks = λ g f p. elim (prefix_push (g ++ f ∷ []) h e p) [
    | inl q ↦ legal.locks g f q
    | inr q ↦
        let same = last_same g h f e q in
        subst (λ k. is_locked holder stripes k f ≡ true) (sym same.0) (subst (λ x. is_locked holder stripes h x ≡ true) (sym same.1) locked)
  ];
  shape = λ g f p. elim (prefix_push (g ++ f ∷ []) h e p) [
    | inl q ↦ legal.shape g f q
    | inr q ↦
        let same = last_same g h f e q in
        subst (λ k. is_shaped k f ≡ true) (sym same.0) (subst (λ x. is_shaped h x ≡ true) (sym same.1) shaped)
  ];
}

-- If a transaction has entries and has not ended, some caller is in it.
pub empty_or_owned : (t : ℕ) (g : List Entry) (going : ended t g ≡ false) (ls : List Line) → AllByRecursion (IsOwned g) ls
    → (map (λ l. l.entry) (filter (is_of t) ls) ≡ []) ⊎ ((c : ℕ) × (txn_in g c ≡ Some t))
empty_or_owned t g going [] owned = inl refl
empty_or_owned t g going (l ∷ ls) owned =
    (elim (is_of t l) as (λ b. is_of t l ≡ b → (map (λ l. l.entry) (cond b (l ∷ filter (is_of t) ls) (filter (is_of t) ls)) ≡ []) ⊎ ((c : ℕ) × (txn_in g c ≡ Some t))) [
      | true ↦ λ is. inr (caller_of l.entry, owned.0 t (of_is t l.txn is) going)
      | false ↦ λ is. empty_or_owned t g going ls owned.1
    ]) refl

all_at : (p : ℕ → Bool) (t : ℕ) (xs : List ℕ) → list_all p xs ≡ true → list_any (λ u. u == t) xs ≡ true → p t ≡ true
all_at p t [] all there = absurd (false≢true there)
all_at p t (x ∷ xs) all there =
    let parts = and_parts (p x) (list_all p xs) all in
    elim (or_cases (x == t) _ there) [ inl here ↦ ap p (sym (eqb-true x t here)) ∙ parts.0 | inr later ↦ all_at p t xs parts.1 later ]

filter_passes : (p q : ℕ → Bool) (xs : List ℕ) → ((x : ℕ) → p x ≡ true → q x ≡ true) → list_all q (filter p xs) ≡ true
filter_passes p q [] to = refl
filter_passes p q (x ∷ xs) to =
    (elim (p x) as (λ b. p x ≡ b → list_all q (cond b (x ∷ filter p xs) (filter p xs)) ≡ true) [
      | true ↦ λ is. and_from (q x) _ (to x is) (filter_passes p q xs to)
      | false ↦ λ is. filter_passes p q xs to
    ]) refl

-- In a history of the right shape, `replies_hold` is true exactly if `RepliesHoldAt` holds.
pub replies_hold_from : (g : List Entry) → RepliesHoldAt g → replies_hold g ≡ true
replies_hold_from g hold = filter_passes (λ t. is_open t g) (λ t. is_some (alone (serial g) (of t g))) (txns_of is_began g) hold

pub RepliesHoldAt-from : (g : List Entry) → IsShaped g → replies_hold g ≡ true → RepliesHoldAt g
RepliesHoldAt-from g shape holds t is_open_there =
    let callers = callers_of g shape in
    elim (empty_or_owned t g (going_open t g is_open_there) (lines_of g) callers.owned) [
      | inl none ↦ subst (λ es. IsSome (alone (serial g) es)) (sym none) refl
      | inr w ↦ all_at (λ u. is_some (alone (serial g) (of u g))) t (open_txns g) holds
          (any-filter (λ u. is_open u g) t is_open_there (txns_of is_began g) (are_listed g w.0 t w.1))
    ]

-- If `broken` gives None, the entry satisfies the rules of shape, replies and locks.
not_broken : (holder : Holder) (stripes : ℕ) (g : List Entry) (e : Entry) → broken holder stripes g e ≡ None → (is_shaped g e ≡ true) × (replies_hold (g ++ e ∷ []) ≡ true) × (is_locked holder stripes g e ≡ true)
not_broken holder stripes g e is = at (is_shaped g e) (replies_hold (g ++ e ∷ [])) (is_locked holder stripes g e) is
  where
    at : (a b c : Bool) → cond {A = Option ℕ} (not a) (Some 3) (cond (not b) (Some 1) (cond (not c) (Some 2) None)) ≡ None → (a ≡ true) × (b ≡ true) × (c ≡ true)
    at false b c h = absurd (cc (h))
    at true false c h = absurd (cc (h))
    at true true false h = absurd (cc (h))
    at true true true h = (refl, refl, refl)

breaks_none : (holder : Holder) (stripes : ℕ) (g : List Entry) (e : Entry) → is_shaped g e ≡ true → replies_hold (g ++ e ∷ []) ≡ true → is_locked holder stripes g e ≡ true → broken holder stripes g e ≡ None
breaks_none holder stripes g e a b c = rw (a, b, c) refl

pub shape_push : (g : List Entry) (e : Entry) → IsShaped g → is_shaped g e ≡ true → IsShaped (g ++ e ∷ [])
shape_push h e shape shaped g f p = elim (prefix_push (g ++ f ∷ []) h e p) [
  | inl q ↦ shape g f q
  | inr q ↦
      let same = last_same g h f e q in
      subst (λ k. is_shaped k f ≡ true) (sym same.0) (subst (λ x. is_shaped h x ≡ true) (sym same.1) shaped)
]

pub locks_push : (holder : Holder) (stripes : ℕ) (g : List Entry) (e : Entry) → LocksHold holder stripes g → is_locked holder stripes g e ≡ true → LocksHold holder stripes (g ++ e ∷ [])
locks_push holder stripes h e locks locked g f p = elim (prefix_push (g ++ f ∷ []) h e p) [
  | inl q ↦ locks g f q
  | inr q ↦
      let same = last_same g h f e q in
      subst (λ k. is_locked holder stripes k f ≡ true) (sym same.0) (subst (λ x. is_locked holder stripes h x ≡ true) (sym same.1) locked)
]

pub legal_from : {holder : Holder} (stripes : ℕ) (g h : List Entry) (i : ℕ) → IsLegal holder stripes g → first_bad holder stripes g h i ≡ None → IsLegal holder stripes (g ++ h)
legal_from {holder} stripes g [] i legal none = subst (IsLegal holder stripes) (sym (append-nil g)) legal
legal_from {holder} stripes g (e ∷ h) i legal none =
    (elim (broken holder stripes g e) as (λ o. broken holder stripes g e ≡ o → (elim o as (λ o. Option (ℕ × ℕ)) [ Some rule ↦ Some (i, rule) | None ↦ first_bad holder stripes (g ++ e ∷ []) h (i + 1) ]) ≡ None → IsLegal holder stripes (g ++ e ∷ h)) [
      | Some rule ↦ λ is bad. absurd (cc (bad))
      | None ↦ λ is rest.
          let good = not_broken holder stripes g e is in
          let hold = RepliesHoldAt-from (g ++ e ∷ []) (shape_push g e legal.shape good.0) good.1 in
          subst (IsLegal holder stripes) (append_assoc g (e ∷ []) h) (legal_from stripes (g ++ e ∷ []) h (i + 1) (legal_push stripes g e legal good.0 good.2 hold) rest)
    ]) refl none

pub none_bad : {holder : Holder} (stripes : ℕ) (g h : List Entry) (i : ℕ) → IsLegal holder stripes (g ++ h) → first_bad holder stripes g h i ≡ None
none_bad stripes g [] i legal = refl
none_bad {holder} stripes g (e ∷ h) i legal =
    let p : IsPrefix (g ++ e ∷ []) (g ++ e ∷ h) = (h, append_assoc g (e ∷ []) h) in
    let good = breaks_none holder stripes g e (legal.shape g e p) (replies_hold_from (g ++ e ∷ []) (legal.replies (g ++ e ∷ []) p)) (legal.locks g e p) in
    rw (good, first_bad, first_bad_by) (none_bad stripes (g ++ e ∷ []) h (i + 1) (subst (IsLegal holder stripes) (sym (append_assoc g (e ∷ []) h)) legal))

pub legal_none : {holder : Holder} (stripes : ℕ) → IsLegal holder stripes []
legal_none stripes = record {
  replies = λ g p t o. nothing g p t;
  locks = λ g e p. absurd (not_empty g e p);
  shape = λ g e p. absurd (not_empty g e p);
}
  where
    not_empty : (g : List Entry) (e : Entry) → IsPrefix (g ++ e ∷ []) [] → ⊥
    not_empty [] e p = cc (p.1)
    not_empty (x ∷ g) e p = cc (p.1)

    nothing : (g : List Entry) → IsPrefix g [] → (t : ℕ) → IsSome (alone (serial g) (of t g))
    nothing [] p t = refl
    nothing (x ∷ g) p t = absurd (cc (p.1))

-- A history is legal exactly if the search finds no bad entry.
pub legal_iff : {holder : Holder} (stripes : ℕ) (h : List Entry) → IsLegal holder stripes h ↔ (first_bad holder stripes [] h 0 ≡ None)
legal_iff stripes h = (λ legal. none_bad stripes [] h 0 legal, λ none. legal_from stripes [] h 0 (legal_none stripes) none)
