-- Shows the value of the map `now` at a key, because at most one open transaction holds the key's
-- stripe: it is this transaction's value, or else the committed one.
use Rattle.std.proofs.Common.{◌≡◌, ℕ, ◌==◌, ◌≢◌, Bool, true, false, cond, not, ◌||◌, List, [], ◌∷◌, ◌++◌, map, refl, ap, sym, subst, ◌∙◌, Some, None, Option, IsSome}
use Rattle.std.specs.Option.{option_eq}
use Rattle.std.specs.Prelude.{nat_eq}
use Rattle.std.specs.List.{filter, list_any, AllByRecursion}
use Rattle.std.proofs.lemmas.Bool.{false≢true, eq-eqb, eqb-true, cases_Bool, cases_eq, or_left, or_right, or_cases, false_from_ne_true}
use mathlib.Core.Logic.{◌⊎◌, inl, inr}
use Rattle.txn_words.specs.declared.entry.Entry.{Entry}
use Rattle.txn_words.specs.declared.holder.Holder.{Holder}
use Rattle.txn_words.specs.Map.{Map, get}
use Rattle.txn_trace.specs.History.{Line, lines_of, is_of, of, txns_of, ends_in, is_open, open_txns}
use Rattle.txn_words.specs.Kinds.{caller_of, is_began, is_commit, is_abort}
use Rattle.txn_trace.specs.Alone.{alone, map_after}
use Rattle.txn_trace.specs.Serial.{serial}
use Rattle.txn_trace.specs.Now.{first_differing, now_at}
use Rattle.txn_trace.specs.Replies.{RepliesHoldAt}
use Rattle.txn_trace.specs.Locks.{stripe_of, asks_in, LocksHold}
use Rattle.txn_words.specs.Shape.{is_shaped, IsShaped}
use Rattle.txn_trace.specs.Legal.{running}
use Rattle.txn_trace.proofs.Pushes.{txn_in, txn_at, of_is, of-push_in, of-push_out}
use Rattle.txn_trace.proofs.Callers.{Callers, IsOwned, is_end, ended, is_open-ended}
use Rattle.txn_trace.proofs.Shaped.{callers_of, ended_in, not_ended_before}
use Rattle.txn_trace.proofs.Steps.{are_listed, txns_of-push, any-append_left, serial-push_commit, map_after-commit}
use Rattle.txn_trace.proofs.Stripes.{keys_in, Apart, are_apart, untouched, touched, runs_there}

pub same_option : (a b : Option ℕ) → option_eq nat_eq a b ≡ true → a ≡ b
same_option None None is = refl
same_option None (Some y) is = absurd (false≢true is)
same_option (Some x) None is = absurd (false≢true is)
same_option (Some x) (Some y) is = ap Some (eqb-true x y is)

pub option_itself : (a : Option ℕ) → option_eq nat_eq a a ≡ true
option_itself None = refl
option_itself (Some x) = eq-eqb x x refl

pub same_is : (a b : Option ℕ) → a ≡ b → option_eq nat_eq a b ≡ true
same_is a b is = subst (λ x. option_eq nat_eq a x ≡ true) is (option_itself a)

module _ (base : Map) (f : ℕ → Map) (k : ℕ) where
  -- If no map differs from the base at the key, `first_differing` is the value of the base.
  first_base : (ts : List ℕ) → AllByRecursion (λ t. get (f t) k ≡ get base k) ts → first_differing base (map f ts) k ≡ get base k
  first_base [] all = refl
  first_base (t ∷ ts) all = ap (λ b. cond b (first_differing base (map f ts) k) (get (f t) k)) (same_is _ _ all.0) ∙ first_base ts all.1

  one_for_all : (t : ℕ) → get (f t) k ≡ get base k → (ts : List ℕ) → AllByRecursion (λ u. u ≢ t → get (f u) k ≡ get base k) ts → AllByRecursion (λ u. get (f u) k ≡ get base k) ts
  one_for_all t is [] all = tt
  one_for_all t is (u ∷ ts) all = (elim (cases_eq u t) [ inl same ↦ ap (λ x. get (f x) k) same ∙ is | inr other ↦ all.0 other ], one_for_all t is ts all.1)

  -- If only the map of `t` can differ from the base at the key, `first_differing` is the value of
  -- this map.
  first_one : (t : ℕ) (ts : List ℕ) → list_any (λ u. u == t) ts ≡ true → AllByRecursion (λ u. u ≢ t → get (f u) k ≡ get base k) ts → first_differing base (map f ts) k ≡ get (f t) k
  first_one t [] there all = absurd (false≢true there)
  first_one t (u ∷ ts) there all = elim (cases_eq u t) [
    | inl same ↦
        (elim (option_eq nat_eq (get (f u) k) (get base k)) as (λ b. option_eq nat_eq (get (f u) k) (get base k) ≡ b → cond b (first_differing base (map f ts) k) (get (f u) k) ≡ get (f t) k) [
          | true ↦ λ is.
              let at_t : get (f t) k ≡ get base k = ap (λ x. get (f x) k) (sym same) ∙ same_option _ _ is in
              first_base ts (one_for_all t at_t ts all.1) ∙ sym at_t
          | false ↦ λ is. ap (λ x. get (f x) k) same
        ]) refl
    | inr other ↦
        let rest : list_any (λ u. u == t) ts ≡ true = elim (or_cases (u == t) _ there) [ inl here ↦ absurd (other (eqb-true u t here)) | inr later ↦ later ] in
        ap (λ b. cond b (first_differing base (map f ts) k) (get (f u) k)) (same_is _ _ (all.0 other)) ∙ first_one t ts rest all.1
  ]

all_pass : (p : ℕ → Bool) (P : ℕ → Type 0) → ((x : ℕ) → p x ≡ true → P x) → (xs : List ℕ) → AllByRecursion P (filter p xs)
all_pass p P to [] = tt
all_pass p P to (x ∷ xs) =
    (elim (p x) as (λ b. p x ≡ b → AllByRecursion P (cond b (x ∷ filter p xs) (filter p xs))) [ true ↦ λ is. (to x is, all_pass p P to xs) | false ↦ λ is. all_pass p P to xs ]) refl

pub any-filter : (p : ℕ → Bool) (t : ℕ) → p t ≡ true → (xs : List ℕ) → list_any (λ u. u == t) xs ≡ true → list_any (λ u. u == t) (filter p xs) ≡ true
any-filter p t is [] there = absurd (false≢true there)
any-filter p t is (x ∷ xs) there = elim (cases_eq x t) [
  | inl same ↦ ap (λ b. list_any (λ u. u == t) (cond b (x ∷ filter p xs) (filter p xs))) (ap p same ∙ is) ∙ or_left _ _ (eq-eqb x t same)
  | inr other ↦
      let rest = any-filter p t is xs (elim (or_cases (x == t) _ there) [ inl here ↦ absurd (other (eqb-true x t here)) | inr later ↦ later ]) in
      elim (p x) as (λ b. list_any (λ u. u == t) (cond b (x ∷ filter p xs) (filter p xs)) ≡ true) [ true ↦ or_right (x == t) _ rest | false ↦ rest ]
]

-- The transaction has begun and not ended.
pub record IsRunning (g : List Entry) (t : ℕ) : Type 0 where
  pub began : list_any (λ u. u == t) (txns_of is_began g) ≡ true
  pub going : ended t g ≡ false

pub open_going : (t : ℕ) (g : List Entry) → ended t g ≡ false → is_open t g ≡ true
open_going t g is = is_open-ended t g ∙ ap not is

pub going_open : (t : ℕ) (g : List Entry) → is_open t g ≡ true → ended t g ≡ false
going_open t g is = turn (ended t g) (sym (is_open-ended t g) ∙ is)
  where
    turn : (b : Bool) → not b ≡ true → b ≡ false
    turn true h = absurd (false≢true h)
    turn false h = refl

-- If a caller is in a transaction that has not ended, `IsRunning` holds for this transaction.
pub running_of : (g : List Entry) (c t : ℕ) → txn_in g c ≡ Some t → ended t g ≡ false → IsRunning g t
running_of g c t is going = record { began = are_listed g c t is; going = going }

module _ (stripes : ℕ) (g : List Entry) (k : ℕ) where
  -- Let `t` be running, and let no other running transaction hold the stripe of a key. Then the map
  -- `now` and the last map of `t` have the same value at the key.
  pub now_at-mine : (t : ℕ) → IsRunning g t → ((u : ℕ) → ended u g ≡ false → u ≢ t → keys_in stripes (of u g) k ≡ false) → now_at g k ≡ get (map_after (serial g) (of t g)) k
  now_at-mine t running none = first_one (serial g) (λ u. map_after (serial g) (of u g)) k t (open_txns g)
      (any-filter (λ u. is_open u g) t (open_going t g running.going) (txns_of is_began g) running.began)
      (all_pass (λ u. is_open u g) _ (λ u is other. untouched stripes (of u g) (serial g) (serial g) k (none u (going_open u g is) other)) (txns_of is_began g))

  -- If no running transaction holds the stripe of a key, the map `now` and the committed map have
  -- the same value at the key.
  pub now_at-free : ((u : ℕ) → ended u g ≡ false → keys_in stripes (of u g) k ≡ false) → now_at g k ≡ get (serial g) k
  now_at-free none = first_base (serial g) (λ u. map_after (serial g) (of u g)) k (open_txns g)
      (all_pass (λ u. is_open u g) _ (λ u is. untouched stripes (of u g) (serial g) (serial g) k (none u (going_open u g is))) (txns_of is_began g))

  -- If a running transaction holds the stripe of a key, the map `now` and the transaction's last
  -- map have the same value at the key.
  pub now_at-holder : Apart stripes g → (t : ℕ) → IsRunning g t → keys_in stripes (of t g) k ≡ true → now_at g k ≡ get (map_after (serial g) (of t g)) k
  now_at-holder apart t running held = now_at-mine t running (λ u going other. false_from_ne_true _ (λ is. other (apart u t (stripe_of stripes k) going running.going is held)))

owner_in : (stripes s u : ℕ) (g : List Entry) → ended u g ≡ false → (ls : List Line) → AllByRecursion (IsOwned g) ls → list_any (asks_in stripes s) (map (λ l. l.entry) (filter (is_of u) ls)) ≡ true → (c : ℕ) × (txn_in g c ≡ Some u)
owner_in stripes s u g going [] owned asks = absurd (false≢true asks)
owner_in stripes s u g going (l ∷ ls) owned asks =
    (elim (is_of u l) as (λ b. is_of u l ≡ b → list_any (asks_in stripes s) (map (λ l. l.entry) (cond b (l ∷ filter (is_of u) ls) (filter (is_of u) ls))) ≡ true → (c : ℕ) × (txn_in g c ≡ Some u)) [
      | true ↦ λ of_u h. (caller_of l.entry, owned.0 u (of_is u l.txn of_u) going)
      | false ↦ λ of_u h. owner_in stripes s u g going ls owned.1 h
    ]) refl asks

-- A running transaction that holds the stripe of a key. `holder_or_none` finds such a transaction,
-- or shows that no running transaction holds this stripe.
pub record KeyHolder (stripes : ℕ) (g : List Entry) (k : ℕ) : Type 0 where
  pub txn : ℕ
  pub running : IsRunning g txn
  pub held : keys_in stripes (of txn g) k ≡ true

found_in : (stripes : ℕ) (g : List Entry) (k : ℕ) (ts : List ℕ) → (((u : ℕ) → list_any (λ x. x == u) ts ≡ true → keys_in stripes (of u g) k ≡ false)) ⊎ ((u : ℕ) × (keys_in stripes (of u g) k ≡ true) × (list_any (λ x. x == u) ts ≡ true))
found_in stripes g k [] = inl (λ u there. absurd (false≢true there))
found_in stripes g k (t ∷ ts) = elim (cases_Bool (keys_in stripes (of t g) k)) [
  | inl yes_it ↦ inr (t, yes_it, or_left _ _ (eq-eqb t t refl))
  | inr not_it ↦ elim (found_in stripes g k ts) [
    | inl none ↦ inl (λ u there. elim (or_cases (t == u) _ there) [ inl here ↦ ap (λ x. keys_in stripes (of x g) k) (sym (eqb-true t u here)) ∙ not_it | inr later ↦ none u later ])
    | inr w ↦ inr (w.0, w.1, or_right (t == w.0) _ w.2)
  ]
]

pub any-filter_back : (p : ℕ → Bool) (t : ℕ) (xs : List ℕ) → list_any (λ u. u == t) (filter p xs) ≡ true → (list_any (λ u. u == t) xs ≡ true) × (p t ≡ true)
any-filter_back p t [] there = absurd (false≢true there)
any-filter_back p t (x ∷ xs) there =
    (elim (p x) as (λ b. p x ≡ b → list_any (λ u. u == t) (cond b (x ∷ filter p xs) (filter p xs)) ≡ true → (((x == t) || list_any (λ u. u == t) xs) ≡ true) × (p t ≡ true)) [
      | true ↦ λ is h. elim (or_cases (x == t) _ h) [
        | inl here ↦ (or_left _ _ here, ap p (sym (eqb-true x t here)) ∙ is)
        | inr later ↦ (or_right (x == t) _ (any-filter_back p t xs later).0, (any-filter_back p t xs later).1)
      ]
      | false ↦ λ is h. (or_right (x == t) _ (any-filter_back p t xs h).0, (any-filter_back p t xs h).1)
    ]) refl there

pub holder_or_none : (stripes : ℕ) (g : List Entry) (k : ℕ) → Callers g → KeyHolder stripes g k ⊎ ((u : ℕ) → ended u g ≡ false → keys_in stripes (of u g) k ≡ false)
holder_or_none stripes g k callers = elim (found_in stripes g k (open_txns g)) [
  | inr w ↦
      let there = any-filter_back (λ u. is_open u g) w.0 (txns_of is_began g) w.2 in
      inl (record { txn = w.0; running = record { began = there.0; going = going_open w.0 g there.1 }; held = w.1 })
  | inl none ↦ inr (λ u going. false_from_ne_true _ (λ is.
      let owner = owner_in stripes (stripe_of stripes k) u g going (lines_of g) callers.owned is in
      let there = any-filter (λ x. is_open x g) u (open_going u g going) (txns_of is_began g) (are_listed g owner.0 u owner.1) in
      false≢true (sym (none u there) ∙ is)))
]

-- Lemmas for one more entry that commits the transaction `t`.
module _ (holder : Holder) (stripes : ℕ) (g : List Entry) (e : Entry) (t : ℕ) (shape : IsShaped g) (locks : LocksHold holder stripes g) (shape_after : IsShaped (g ++ e ∷ [])) (shaped : is_shaped g e ≡ true) (commit : is_commit e ≡ true) (at : txn_at g e ≡ Some t) (going : ended t g ≡ false) where
  callers : Callers g
  callers = callers_of g shape

  apart : Apart stripes g
  apart = are_apart holder stripes g shape locks

  pub serial-commit : serial (g ++ e ∷ []) ≡ map_after (serial g) (of t g)
  serial-commit = serial-push_commit g e callers shape shaped shape_after t commit at ∙ ap (map_after (serial g)) (of-push_in t g e at) ∙ map_after-commit (serial g) (of t g) e commit

  not_t : (u : ℕ) → ended u (g ++ e ∷ []) ≡ false → u ≢ t
  not_t u goes same = false≢true (sym goes ∙ ap (λ x. ended x (g ++ e ∷ [])) same ∙ ended_in g e callers shaped t at ∙ or_left (is_commit e) (is_abort e) commit)

  entries_stay : (u : ℕ) → u ≢ t → of u (g ++ e ∷ []) ≡ of u g
  entries_stay u other = of-push_out u g e (λ in_u. other (some u (sym in_u ∙ at)))
    where
      some : (x : ℕ) → Some x ≡ Some t → x ≡ t
      some x is = cc (is)

  goes_on : (u : ℕ) → ended u g ≡ false → u ≢ t → ended u (g ++ e ∷ []) ≡ false
  goes_on u goes other = ap (ends_in is_end) (entries_stay u other) ∙ goes

  -- If another running transaction holds the stripe of a key, the key's committed value is
  -- unchanged.
  same_there : (u : ℕ) → ended u g ≡ false → u ≢ t → (k : ℕ) → keys_in stripes (of u g) k ≡ true → get (serial g) k ≡ get (serial (g ++ e ∷ [])) k
  same_there u goes other k held =
      sym (ap (λ m. get m k) serial-commit ∙ untouched stripes (of t g) (serial g) (serial g) k (false_from_ne_true _ (λ is. other (apart u t (stripe_of stripes k) goes going held is))))

  -- After the commit, the replies of the open transactions are still right (`RepliesHoldAt`).
  pub replies-push_commit : RepliesHoldAt g → RepliesHoldAt (g ++ e ∷ [])
  replies-push_commit hold u is_open_after =
      let goes_after = going_open u (g ++ e ∷ []) is_open_after in
      let other = not_t u goes_after in
      let goes = not_ended_before g e callers shaped u goes_after in
      subst (λ es. IsSome (alone (serial (g ++ e ∷ [])) es)) (sym (entries_stay u other))
      (runs_there stripes (of u g) (serial g) (serial (g ++ e ∷ [])) (same_there u goes other) (hold u (open_going u g goes)))

  -- The commit leaves the map `now` unchanged.
  pub now_at-push_commit : (k : ℕ) → now_at (g ++ e ∷ []) k ≡ now_at g k
  now_at-push_commit k = elim (holder_or_none stripes g k callers) [
    | inl w ↦ elim (cases_eq w.txn t) [
      | inl same ↦
          now_at-free stripes (g ++ e ∷ []) k (λ u goes_after.
          let other = not_t u goes_after in
          ap (λ es. keys_in stripes es k) (entries_stay u other)
          ∙ false_from_ne_true _ (λ is. other (apart u w.txn (stripe_of stripes k) (not_ended_before g e callers shaped u goes_after) w.running.going is w.held ∙ same)))
          ∙ ap (λ m. get m k) serial-commit
          ∙ ap (λ x. get (map_after (serial g) (of x g)) k) (sym same)
          ∙ sym (now_at-holder stripes g k apart w.txn w.running w.held)
      | inr other ↦
          now_at-mine stripes (g ++ e ∷ []) k w.txn (record { began = subst (λ ts. list_any (λ x. x == w.txn) ts ≡ true) (sym (txns_of-push is_began g e)) (any-append_left (λ x. x == w.txn) (txns_of is_began g) _ w.running.began); going = goes_on w.txn w.running.going other })
          (λ u goes_after away.
          ap (λ es. keys_in stripes es k) (entries_stay u (not_t u goes_after))
          ∙ false_from_ne_true _ (λ is. away (apart u w.txn (stripe_of stripes k) (not_ended_before g e callers shaped u goes_after) w.running.going is w.held)))
          ∙ ap (λ es. get (map_after (serial (g ++ e ∷ [])) es) k) (entries_stay w.txn other)
          ∙ sym (touched stripes (of w.txn g) (serial g) (serial (g ++ e ∷ [])) (same_there w.txn w.running.going other) k w.held)
          ∙ sym (now_at-holder stripes g k apart w.txn w.running w.held)
    ]
    | inr none ↦
        now_at-free stripes (g ++ e ∷ []) k (λ u goes_after. ap (λ es. keys_in stripes es k) (entries_stay u (not_t u goes_after)) ∙ none u (not_ended_before g e callers shaped u goes_after))
        ∙ ap (λ m. get m k) serial-commit
        ∙ untouched stripes (of t g) (serial g) (serial g) k (none t going)
        ∙ sym (now_at-free stripes g k none)
  ]
