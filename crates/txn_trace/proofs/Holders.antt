-- Shows that a stripe has at most one holder, because an `Asked` is allowed only if no other caller
-- holds its stripe, and how one more entry changes the holders.
use Rattle.std.proofs.Common.{◌≡◌, ◌≢◌, ℕ, ◌==◌, Bool, true, false, cond, not, ◌&&◌, List, [], ◌∷◌, ◌++◌, map, slice_get, refl, ap, sym, subst, ◌∙◌, Some, None, Option}
use Rattle.std.specs.Option.{option_eq}
use Rattle.std.specs.Prelude.{nat_eq}
use Rattle.std.specs.List.{filter, list_any, list_all, AllByRecursion}
use Rattle.std.proofs.lemmas.Bool.{false≢true, cases_Bool, cases_eq, eq-eqb, eqb-true, ne_eqb, or_left, or_right, or_cases, and_parts, and_from, false_from_ne_true}
use Rattle.std.proofs.lemmas.List.{append-nil, map-append}
use Rattle.std.proofs.lemmas.List.Elements.{filter-append}
use mathlib.Core.Logic.{◌⊎◌, inl, inr}
use Rattle.txn_words.specs.declared.op.Op.{Op}
use Rattle.txn_words.specs.declared.entry.Entry.{Entry}
use Rattle.txn_words.specs.declared.holder.Holder.{Holder}
use Rattle.txn_words.specs.declared.holder.Holder.TheVariants.{Now, Begun}
use Rattle.txn_words.specs.declared.entry.Entry.TheVariants.{Asked, Busy}
use Rattle.txn_words.specs.Map.{key_of}
use Rattle.txn_trace.specs.History.{Line, is_open, lines_of}
use Rattle.txn_words.specs.Kinds.{caller_of}
use Rattle.txn_trace.specs.Locks.{stripe_of, asks_in, is_in_open, holders, holder_of, has_begun, is_locked, LocksHold}
use Rattle.txn_words.specs.Shape.{is_shaped, IsShaped}
use Rattle.txn_trace.proofs.Lists.{map_one}
use Rattle.txn_trace.proofs.Pushes.{txn_in, txn_at, lines_of-push}
use Rattle.txn_trace.proofs.Callers.{Callers, IsOwned, is_end, ended, is_open-ended, in_or_out, end_not_began, at_is, not_began_is, some_same}
use Rattle.txn_trace.proofs.Shaped.{ended_in, ended_out, not_ended_before}
use Rattle.txn_trace.proofs.Now.{any-filter_back, going_open}
use Rattle.txn_trace.proofs.Inductions.{by_locked_entries}
use Rattle.txn_trace.proofs.Running.{has_txn}

abbrev caller_on : Line → ℕ
caller_on line = caller_of line.entry

abbrev holds_it : ℕ → ℕ → List Entry → Line → Bool
holds_it stripes s g line = asks_in stripes s line.entry && is_in_open g line

filter_same : {X : Type 0} (p q : X → Bool) (xs : List X) → ((x : X) → p x ≡ q x) → filter p xs ≡ filter q xs
filter_same p q xs same i = filter (λ x. same x i) xs

module _ (stripes s : ℕ) (g : List Entry) (e : Entry) where
  -- By `holds_it`, a line holds the stripe if it asks for a key of the stripe and its transaction
  -- is open. After one more entry, the holders are the callers of the earlier lines that still hold
  -- the stripe. If the line of the new entry holds the stripe, this line's caller is added at the
  -- end.
  holders-split : holders stripes s (g ++ e ∷ []) ≡ map caller_on (filter (holds_it stripes s (g ++ e ∷ [])) (lines_of g)) ++ cond (holds_it stripes s (g ++ e ∷ []) (record { txn = txn_at g e; entry = e })) (caller_of e ∷ []) []
  holders-split =
      let line : Line = record { txn = txn_at g e; entry = e } in
      let front : List ℕ = map caller_on (filter (holds_it stripes s (g ++ e ∷ [])) (lines_of g)) in
      ap (λ ls. map caller_on (filter (holds_it stripes s (g ++ e ∷ [])) ls)) (lines_of-push g e)
      ∙ ap (map caller_on) (filter-append (holds_it stripes s (g ++ e ∷ [])) (lines_of g) (line ∷ []))
      ∙ map-append caller_on (filter (holds_it stripes s (g ++ e ∷ [])) (lines_of g)) _
      ∙ ap (λ xs. front ++ xs) (map_one caller_on (holds_it stripes s (g ++ e ∷ []) line) line)

module _ (stripes : ℕ) (g : List Entry) (e : Entry) (callers : Callers g) (shaped : is_shaped g e ≡ true) where
  pub ended-push : is_end e ≡ false → (u : ℕ) → ended u (g ++ e ∷ []) ≡ ended u g
  ended-push goes u = elim (in_or_out (txn_at g e) u) [
    | inl at ↦
        let not_done : ended u (g ++ e ∷ []) ≡ false = ended_in g e callers shaped u at ∙ goes in
        not_done ∙ sym (not_ended_before g e callers shaped u not_done)
    | inr out ↦ ended_out g e callers shaped u out
  ]

  is_in_open-push : is_end e ≡ false → (line : Line) → is_in_open (g ++ e ∷ []) line ≡ is_in_open g line
  is_in_open-push goes line = at line.txn
    where
      at : (o : Option ℕ) → is_in_open (g ++ e ∷ []) (record { txn = o; entry = line.entry }) ≡ is_in_open g (record { txn = o; entry = line.entry })
      at None = refl
      at (Some u) = is_open-ended u (g ++ e ∷ []) ∙ ap not (ended-push goes u) ∙ sym (is_open-ended u g)

  same_before : (s : ℕ) → is_end e ≡ false → filter (holds_it stripes s (g ++ e ∷ [])) (lines_of g) ≡ filter (holds_it stripes s g) (lines_of g)
  same_before s goes = filter_same (holds_it stripes s (g ++ e ∷ [])) (holds_it stripes s g) (lines_of g) (λ line. ap (λ b. asks_in stripes s line.entry && b) (is_in_open-push goes line))

  -- An entry that asks for no key of the stripe, and ends no transaction, leaves the stripe's
  -- holders unchanged.
  pub holders-other : (s : ℕ) → is_end e ≡ false → asks_in stripes s e ≡ false → holders stripes s (g ++ e ∷ []) ≡ holders stripes s g
  holders-other s goes asks =
      holders-split stripes s g e
      ∙ ap (λ ls. map caller_on ls ++ cond (holds_it stripes s (g ++ e ∷ []) (record { txn = txn_at g e; entry = e })) (caller_of e ∷ []) []) (same_before s goes)
      ∙ ap (λ b. holders stripes s g ++ cond (b && is_in_open (g ++ e ∷ []) (record { txn = txn_at g e; entry = e })) (caller_of e ∷ []) []) asks
      ∙ append-nil (holders stripes s g)

  -- An entry that asks for a key of the stripe adds its caller to the holders.
  pub holders-asked : (s t : ℕ) → is_end e ≡ false → txn_at g e ≡ Some t → asks_in stripes s e ≡ true → holders stripes s (g ++ e ∷ []) ≡ holders stripes s g ++ caller_of e ∷ []
  holders-asked s t goes at asks =
      let is_in : is_in_open (g ++ e ∷ []) (record { txn = txn_at g e; entry = e }) ≡ true =
      ap (λ o. is_in_open (g ++ e ∷ []) (record { txn = o; entry = e })) at ∙ is_open-ended t (g ++ e ∷ []) ∙ ap not (ended_in g e callers shaped t at ∙ goes) in
      holders-split stripes s g e
      ∙ ap (λ ls. map caller_on ls ++ cond (holds_it stripes s (g ++ e ∷ []) (record { txn = txn_at g e; entry = e })) (caller_of e ∷ []) []) (same_before s goes)
      ∙ ap (λ b. holders stripes s g ++ cond (b && is_in_open (g ++ e ∷ []) (record { txn = txn_at g e; entry = e })) (caller_of e ∷ []) []) asks
      ∙ ap (λ b. holders stripes s g ++ cond b (caller_of e ∷ []) []) is_in

  asks_no_more : (s : ℕ) (f : Entry) → is_end f ≡ true → asks_in stripes s f ≡ false
  asks_no_more s (Asked c op) is = absurd (false≢true is)
  asks_no_more s _ is = refl

  module _ (s t : ℕ) (ends : is_end e ≡ true) (at : txn_at g e ≡ Some t) where
    in_t : txn_in g (caller_of e) ≡ Some t
    in_t = not_began_is g e t (end_not_began e ends) (at_is g e t at)

    stays_if : (line : Line) → IsOwned g line → (o : Option ℕ) → line.txn ≡ o → is_in_open g line ≡ true → is_in_open (g ++ e ∷ []) line ≡ not (caller_on line == caller_of e)
    stays_if line owned None is opened = absurd (false≢true (ap (λ o. is_in_open g (record { txn = o; entry = line.entry })) (sym is) ∙ opened))
    stays_if line owned (Some u) is opened =
        let open_u : is_open u g ≡ true = ap (λ o. is_in_open g (record { txn = o; entry = line.entry })) (sym is) ∙ opened in
        let in_u : txn_in g (caller_on line) ≡ Some u = owned u is (going_open u g open_u) in
        ap (λ o. is_in_open (g ++ e ∷ []) (record { txn = o; entry = line.entry })) is
        ∙ (elim (cases_eq u t) [
          | inl same ↦
              let mine : caller_on line ≡ caller_of e = callers.one (caller_on line) (caller_of e) t (in_u ∙ ap Some same) in_t in
              ap (λ x. is_open x (g ++ e ∷ [])) same ∙ is_open-ended t (g ++ e ∷ []) ∙ ap not (ended_in g e callers shaped t at ∙ ends) ∙ ap not (sym (eq-eqb (caller_on line) (caller_of e) mine))
          | inr other ↦
              let apart : caller_on line ≢ caller_of e = λ mine. other (some_same u t (sym in_u ∙ ap (txn_in g) mine ∙ in_t)) in
              is_open-ended u (g ++ e ∷ []) ∙ ap not (ended_out g e callers shaped u (λ in_it. other (some_same u t (sym in_it ∙ at)))) ∙ sym (is_open-ended u g) ∙ open_u
              ∙ ap not (sym (ne_eqb (caller_on line) (caller_of e) apart))
        ])

    opened_before : (line : Line) → is_in_open g line ≡ false → is_in_open (g ++ e ∷ []) line ≡ false
    opened_before line is = false_from_ne_true _ (λ after. before line.txn refl after)
      where
        before : (o : Option ℕ) → line.txn ≡ o → is_in_open (g ++ e ∷ []) line ≡ true → ⊥
        before None none after = false≢true (ap (λ o. is_in_open (g ++ e ∷ []) (record { txn = o; entry = line.entry })) (sym none) ∙ after)
        before (Some u) some after =
            let open_after : is_open u (g ++ e ∷ []) ≡ true = ap (λ o. is_in_open (g ++ e ∷ []) (record { txn = o; entry = line.entry })) (sym some) ∙ after in
            let going = not_ended_before g e callers shaped u (going_open u (g ++ e ∷ []) open_after) in
            false≢true (sym is ∙ ap (λ o. is_in_open g (record { txn = o; entry = line.entry })) some ∙ is_open-ended u g ∙ ap not going)

    left : (ls : List Line) → AllByRecursion (IsOwned g) ls
        → map caller_on (filter (holds_it stripes s (g ++ e ∷ [])) ls) ≡ filter (λ x. not (x == caller_of e)) (map caller_on (filter (holds_it stripes s g) ls))
    left [] owned = refl
    left (line ∷ ls) owned =
        let rest = left ls owned.1 in
        let c = caller_of e in
        elim (cases_Bool (asks_in stripes s line.entry)) [
          | inr no_ask ↦ rw (no_ask) rest
          | inl asks ↦ elim (cases_Bool (is_in_open g line)) [
            | inr shut ↦ rw (asks, opened_before line shut, shut) rest
            | inl opened ↦ elim (cases_Bool (caller_on line == c)) [
              | inl mine ↦ rw (asks, stays_if line owned.0 line.txn refl opened, opened, mine) rest
              | inr other ↦ rw (asks, stays_if line owned.0 line.txn refl opened, opened, other) (ap (λ xs. caller_on line ∷ xs) rest)
            ]
          ]
        ]

    -- The end of a transaction removes its caller from the holders, and no other caller.
    pub holders-end : holders stripes s (g ++ e ∷ []) ≡ filter (λ x. not (x == caller_of e)) (holders stripes s g)
    holders-end =
        holders-split stripes s g e
        ∙ ap (λ b. map caller_on (filter (holds_it stripes s (g ++ e ∷ [])) (lines_of g)) ++ cond (b && is_in_open (g ++ e ∷ []) (record { txn = txn_at g e; entry = e })) (caller_of e ∷ []) []) (asks_no_more s e ends)
        ∙ append-nil _ ∙ left (lines_of g) callers.owned

-- Any two members of a list are equal.
abbrev pub AreSame : List ℕ → Type 0
AreSame xs = (c d : ℕ) → list_any (λ x. x == c) xs ≡ true → list_any (λ x. x == d) xs ≡ true → c ≡ d

any_last : (xs : List ℕ) (c y : ℕ) → list_any (λ x. x == c) (xs ++ y ∷ []) ≡ true → (list_any (λ x. x == c) xs ≡ true) ⊎ (y ≡ c)
any_last [] c y is = elim (or_cases (y == c) false is) [ inl here ↦ inr (eqb-true y c here) | inr never ↦ absurd (false≢true never) ]
any_last (x ∷ xs) c y is = elim (or_cases (x == c) _ is) [
  | inl here ↦ inl (or_left _ _ here)
  | inr later ↦ elim (any_last xs c y later) [ inl there ↦ inl (or_right (x == c) _ there) | inr same ↦ inr same ]
]

all_are : (c : ℕ) (xs : List ℕ) → list_all (λ x. x == c) xs ≡ true → (d : ℕ) → list_any (λ x. x == d) xs ≡ true → d ≡ c
all_are c [] all d there = absurd (false≢true there)
all_are c (x ∷ xs) all d there =
    let parts = and_parts (x == c) _ all in
    elim (or_cases (x == d) _ there) [ inl here ↦ sym (eqb-true x d here) ∙ eqb-true x c parts.0 | inr later ↦ all_are c xs parts.1 d later ]

pub first_any : (xs : List ℕ) (d : ℕ) → slice_get xs 0 ≡ Some d → list_any (λ x. x == d) xs ≡ true
first_any [] d is = absurd (cc (is))
first_any (x ∷ xs) d is = or_left _ _ (eq-eqb x d (some_same x d is))

-- If a history has the right shape and the rule of locks holds, each stripe has at most one holder.
pub one_holder : (holder : Holder) (stripes : ℕ) (g : List Entry) → IsShaped g → LocksHold holder stripes g → (s : ℕ) → AreSame (holders stripes s g)
one_holder holder stripes g shape locks s = by_locked_entries holder stripes (λ h. AreSame (holders stripes s h)) step (λ c d there also. absurd (false≢true there)) g shape locks
  where
    asked : (g : List Entry) (e : Entry) → Callers g → is_shaped g e ≡ true → is_locked holder stripes g e ≡ true → AreSame (holders stripes s g) → is_end e ≡ false → asks_in stripes s e ≡ true → (o : Option ℕ) → txn_at g e ≡ o → AreSame (holders stripes s (g ++ e ∷ []))
    asked g e callers shaped locked was goes asks None at =
        let same : holders stripes s (g ++ e ∷ []) ≡ holders stripes s g =
        holders-split stripes s g e
        ∙ ap (λ ls. map caller_on ls ++ cond (holds_it stripes s (g ++ e ∷ []) (record { txn = txn_at g e; entry = e })) (caller_of e ∷ []) []) (same_before stripes g e callers shaped s goes)
        ∙ ap (λ o. holders stripes s g ++ cond (asks_in stripes s e && is_in_open (g ++ e ∷ []) (record { txn = o; entry = e })) (caller_of e ∷ []) []) at
        ∙ ap (λ b. holders stripes s g ++ cond (b && false) (caller_of e ∷ []) []) asks ∙ append-nil (holders stripes s g) in
        subst AreSame (sym same) was
    asked g e callers shaped locked was goes asks (Some t) at = subst AreSame (sym (holders-asked stripes g e callers shaped s t goes at asks)) both
      where
        all : list_all (λ x. x == caller_of e) (holders stripes s g) ≡ true
        all = from e asks locked
          where
            from : (f : Entry) → asks_in stripes s f ≡ true → is_locked holder stripes g f ≡ true → list_all (λ x. x == caller_of f) (holders stripes s g) ≡ true
            from (Asked c op) there alone = subst (λ r. list_all (λ x. x == c) (holders stripes r g) ≡ true) (eqb-true (stripe_of stripes (key_of op)) s there) alone
            from _ there alone = absurd (false≢true there)

        mine : (c : ℕ) → list_any (λ x. x == c) (holders stripes s g ++ caller_of e ∷ []) ≡ true → c ≡ caller_of e
        mine c there = elim (any_last (holders stripes s g) c (caller_of e) there) [ inl old ↦ all_are (caller_of e) (holders stripes s g) all c old | inr new ↦ sym new ]

        both : AreSame (holders stripes s g ++ caller_of e ∷ [])
        both c d there also = mine c there ∙ sym (mine d also)

    ended_one : (g : List Entry) (e : Entry) → Callers g → is_shaped g e ≡ true → AreSame (holders stripes s g) → is_end e ≡ true → (t : ℕ) → txn_at g e ≡ Some t → AreSame (holders stripes s (g ++ e ∷ []))
    ended_one g e callers shaped was ends t at c d there also =
        let back : (x : ℕ) → list_any (λ y. y == x) (holders stripes s (g ++ e ∷ [])) ≡ true → list_any (λ y. y == x) (holders stripes s g) ≡ true =
        λ x is. (any-filter_back (λ y. not (y == caller_of e)) x (holders stripes s g) (subst (λ xs. list_any (λ y. y == x) xs ≡ true) (holders-end stripes g e callers shaped s t ends at) is)).0 in
        was c d (back c there) (back d also)

    step : (g : List Entry) (e : Entry) → IsShaped g → Callers g → is_shaped g e ≡ true → is_locked holder stripes g e ≡ true → AreSame (holders stripes s g) → AreSame (holders stripes s (g ++ e ∷ []))
    step g e shape callers shaped locked was = elim (cases_Bool (is_end e)) as (λ b. AreSame (holders stripes s (g ++ e ∷ []))) [
      | inl ends ↦ let there = has_txn g e shape shaped in ended_one g e callers shaped was ends there.0 there.1
      | inr goes ↦ elim (cases_Bool (asks_in stripes s e)) [
        | inl asks ↦ asked g e callers shaped locked was goes asks (txn_at g e) refl
        | inr asks ↦ subst AreSame (sym (holders-other stripes g e callers shaped s goes asks)) was
      ]
    ]

all_from_same : (c : ℕ) (xs : List ℕ) → AreSame xs → list_any (λ x. x == c) xs ≡ true → (ys : List ℕ) → ((y : ℕ) → list_any (λ x. x == y) ys ≡ true → list_any (λ x. x == y) xs ≡ true) → list_all (λ x. x == c) ys ≡ true
all_from_same c xs same there [] within = refl
all_from_same c xs same there (y ∷ ys) within =
    and_from (y == c) _ (eq-eqb y c (same y c (within y (or_left _ _ (eq-eqb y y refl))) there)) (all_from_same c xs same there ys (λ z is. within z (or_right (y == z) _ is)))

-- The rule of locks allows an `Asked` exactly if its own caller holds the stripe or no caller holds
-- it.
pub is_locked-asked : (holder : Holder) (stripes : ℕ) (g : List Entry) (c : ℕ) (op : Op) → IsShaped g → LocksHold holder stripes g
    → is_locked holder stripes g (Asked c op) ≡ elim (holder_of stripes (stripe_of stripes (key_of op)) g) [ None ↦ true | Some d ↦ d == c ]
is_locked-asked holder stripes g c op shape locks = at (holders stripes (stripe_of stripes (key_of op)) g) (one_holder holder stripes g shape locks (stripe_of stripes (key_of op)))
  where
    at : (xs : List ℕ) → AreSame xs → list_all (λ x. x == c) xs ≡ elim (slice_get xs 0) as (λ o. Bool) [ None ↦ true | Some d ↦ d == c ]
    at [] same = refl
    at (x ∷ xs) same = elim (cases_eq x c) [
      | inl is ↦ all_from_same c (x ∷ xs) same (or_left _ _ (eq-eqb x c is)) (x ∷ xs) (λ y there. there) ∙ sym (eq-eqb x c is)
      | inr other ↦ ap (λ b. b && list_all (λ x. x == c) xs) (ne_eqb x c other) ∙ sym (ne_eqb x c other)
    ]

-- The rule of locks allows a `Busy` exactly if it names a caller other than its own, and the named
-- caller meets a condition. By the rule `Now`, the named caller must hold the stripe. By the rule
-- `Begun`, the named caller must have begun a transaction.
pub is_locked-busy : (holder : Holder) (stripes : ℕ) (g : List Entry) (c : ℕ) (op : Op) (x : ℕ) → IsShaped g → LocksHold holder stripes g
    → is_locked holder stripes g (Busy c op x) ≡ (not (x == c) && elim holder [ Now ↦ option_eq nat_eq (holder_of stripes (stripe_of stripes (key_of op)) g) (Some x) | Begun ↦ has_begun x g ])
is_locked-busy Begun stripes g c op x shape locks = refl
is_locked-busy Now stripes g c op x shape locks = ap (λ b. not (x == c) && b) (at (holders stripes (stripe_of stripes (key_of op)) g) (one_holder Now stripes g shape locks (stripe_of stripes (key_of op))))
  where
    at : (xs : List ℕ) → AreSame xs → list_any (λ y. y == x) xs ≡ option_eq nat_eq (slice_get xs 0) (Some x)
    at [] same = refl
    at (y ∷ ys) same = elim (cases_eq y x) [
      | inl is ↦ or_left _ _ (eq-eqb y x is) ∙ sym (eq-eqb y x is)
      | inr other ↦ false_from_ne_true _ (λ there. other (same y x (or_left _ _ (eq-eqb y y refl)) there)) ∙ sym (ne_eqb y x other)
    ]

module _ (holder : Holder) (stripes : ℕ) (g : List Entry) (e : Entry) (callers : Callers g) (shaped : is_shaped g e ≡ true) (shape : IsShaped g) (locks : LocksHold holder stripes g) where
  -- An entry that asks for no key of the stripe, and ends no transaction, leaves the stripe's
  -- holder unchanged.
  pub holder_of-other : (s : ℕ) → is_end e ≡ false → asks_in stripes s e ≡ false → holder_of stripes s (g ++ e ∷ []) ≡ holder_of stripes s g
  holder_of-other s goes asks = ap (λ xs. slice_get xs 0) (holders-other stripes g e callers shaped s goes asks)

  -- The end of a transaction frees all stripes of its caller.
  pub holder_of-end : (s t : ℕ) → is_end e ≡ true → txn_at g e ≡ Some t → holder_of stripes s (g ++ e ∷ []) ≡ cond (option_eq nat_eq (holder_of stripes s g) (Some (caller_of e))) None (holder_of stripes s g)
  holder_of-end s t ends at = ap (λ xs. slice_get xs 0) (holders-end stripes g e callers shaped s t ends at) ∙ from (holders stripes s g) (one_holder holder stripes g shape locks s)
    where
      c : ℕ
      c = caller_of e

      none : (xs : List ℕ) → list_all (λ x. x == c) xs ≡ true → filter (λ x. not (x == c)) xs ≡ []
      none [] all = refl
      none (x ∷ xs) all =
          let parts = and_parts (x == c) _ all in
          ap (λ b. cond (not b) (x ∷ filter (λ x. not (x == c)) xs) (filter (λ x. not (x == c)) xs)) parts.0 ∙ none xs parts.1

      from : (xs : List ℕ) → AreSame xs → slice_get (filter (λ x. not (x == c)) xs) 0 ≡ cond {A = Option ℕ} (option_eq nat_eq (slice_get xs 0) (Some c)) None (slice_get xs 0)
      from [] same = refl
      from (x ∷ xs) same = elim (cases_eq x c) [
        | inl is ↦
            ap (λ ys. slice_get ys 0) (none (x ∷ xs) (all_from_same c (x ∷ xs) same (or_left _ _ (eq-eqb x c is)) (x ∷ xs) (λ y there. there)))
            ∙ sym (ap (λ b. cond {A = Option ℕ} b None (Some x)) (eq-eqb x c is))
        | inr other ↦
            ap (λ b. slice_get (cond (not b) (x ∷ filter (λ x. not (x == c)) xs) (filter (λ x. not (x == c)) xs)) 0) (ne_eqb x c other)
            ∙ sym (ap (λ b. cond {A = Option ℕ} b None (Some x)) (ne_eqb x c other))
      ]

-- After the entry `Asked`, its caller holds the stripe of its key. The holders of the other stripes
-- are unchanged.
pub holder_of-asked : (holder : Holder) (stripes : ℕ) (g : List Entry) (c t : ℕ) (op : Op) → Callers g → is_shaped g (Asked c op) ≡ true → is_locked holder stripes g (Asked c op) ≡ true → txn_at g (Asked c op) ≡ Some t
    → (s : ℕ) → holder_of stripes s (g ++ Asked c op ∷ []) ≡ cond (stripe_of stripes (key_of op) == s) (Some c) (holder_of stripes s g)
holder_of-asked holder stripes g c t op callers shaped locked at s = elim (cases_Bool (stripe_of stripes (key_of op) == s)) [
  | inl here ↦
      let all : list_all (λ x. x == c) (holders stripes s g) ≡ true = subst (λ r. list_all (λ x. x == c) (holders stripes r g) ≡ true) (eqb-true (stripe_of stripes (key_of op)) s here) locked in
      ap (λ xs. slice_get xs 0) (holders-asked stripes g (Asked c op) callers shaped s t refl at here) ∙ first (holders stripes s g) all ∙ sym (ap (λ b. cond b (Some c) (holder_of stripes s g)) here)
  | inr away ↦ ap (λ xs. slice_get xs 0) (holders-other stripes g (Asked c op) callers shaped s refl away) ∙ sym (ap (λ b. cond b (Some c) (holder_of stripes s g)) away)
]
  where
    first : (xs : List ℕ) → list_all (λ x. x == c) xs ≡ true → slice_get (xs ++ c ∷ []) 0 ≡ Some c
    first [] all = refl
    first (x ∷ xs) all = ap Some (eqb-true x c (and_parts (x == c) _ all).0)
