-- Stripes: which Asked and Busy entries keep the rule of locks, and who holds each stripe after an
-- entry.
use Rattle.std.proofs.Common.{◌≡◌, ◌≢◌, ℕ, ◌<◌, ◌%◌, ◌==◌, ◌&&◌, Bool, true, false, not, cond, List, refl, ap, sym, ◌∙◌, Some, None, Option, arith}
use Rattle.std.specs.Prelude.{nat_eq}
use Rattle.std.specs.Option.{option_eq}
use Rattle.std.proofs.lemmas.Bool.{cases_eq, eq-eqb, ne_eqb}
use mathlib.Core.Logic.{inl, inr}
use Rattle.txn_words.specs.declared.op.Op.{Op}
use Rattle.txn_words.specs.declared.entry.Entry.{Entry}
use Rattle.txn_words.specs.declared.holder.Holder.{Holder}
use Rattle.txn_words.specs.declared.holder.Holder.TheVariants.{Now, Begun}
use Rattle.txn_words.specs.declared.entry.Entry.TheVariants.{Asked, Busy}
use Rattle.txn_words.specs.Map.{key_of}
use Rattle.txn_trace.specs.Locks.{stripe_of, holder_of, has_begun, is_locked}
use Rattle.txn_trace.proofs.Holders.{is_locked-asked, is_locked-busy}
use Rattle.key_locks.specs.Locks as locks
use Rattle.txn_trace.specs.Legal.{IsLegal}
use Rattle.history_check.specs.declared.live_map.LiveMap.{LiveMap}
use Rattle.history_check.specs.LiveMaps.{Shows}

same_test : (a b : ℕ) → (a == b) ≡ (b == a)
same_test a b = elim (cases_eq a b) [
  | inl is ↦ eq-eqb a b is ∙ sym (eq-eqb b a (sym is))
  | inr other ↦ ne_eqb a b other ∙ sym (ne_eqb b a (λ is. other (sym is)))
]

without : (c : ℕ) (o : Option ℕ) → locks.without_caller c o ≡ cond {A = Option ℕ} (option_eq nat_eq o (Some c)) None o
without c None = refl
without c (Some d) = refl

-- A Busy entry that names its own caller breaks the rule of locks.
pub busy-own : {holder : Holder} (stripes : ℕ) (h : List Entry) → IsLegal holder stripes h → (c : ℕ) (op : Op) (x : ℕ) → x ≡ c → is_locked holder stripes h (Busy c op x) ≡ false
busy-own {holder} stripes h legal c op x is =
    is_locked-busy holder stripes h c op x legal.shape legal.locks
    ∙ ap (λ b. not b && elim holder as (λ r. Bool) [ Now ↦ option_eq nat_eq (holder_of stripes (stripe_of stripes (key_of op)) h) (Some x) | Begun ↦ has_begun x h ]) (eq-eqb x c is)

-- If `holder` is `Begun`, a Busy entry that names another caller keeps the rule of locks exactly if
-- that caller has begun a transaction.
pub busy-begun : {holder : Holder} (stripes : ℕ) (h : List Entry) → IsLegal holder stripes h → (c : ℕ) (op : Op) → holder ≡ Begun → (x : ℕ) → x ≢ c → is_locked holder stripes h (Busy c op x) ≡ has_begun x h
busy-begun {holder} stripes h legal c op begun x other =
    is_locked-busy holder stripes h c op x legal.shape legal.locks
    ∙ ap (λ (r : Holder). not (x == c) && elim r as (λ r. Bool) [ Now ↦ option_eq nat_eq (holder_of stripes (stripe_of stripes (key_of op)) h) (Some x) | Begun ↦ has_begun x h ]) begun
    ∙ ap (λ b. not b && has_begun x h) (ne_eqb x c other)

module _ {holder : Holder} (stripes : ℕ) (h : List Entry) (legal : IsLegal holder stripes h) (live : LiveMap) (t : Shows holder stripes h live) (c : ℕ) where
  -- If a caller releases its stripes, they become free, and the other stripes keep their holders.
  pub released : (new : List (Option ℕ)) → locks.Releases c live.locks new → (s : ℕ) → s < stripes → locks.holder_of new s ≡ cond (option_eq nat_eq (holder_of stripes s h) (Some c)) None (holder_of stripes s h)
  released new is s below = is.each s ∙ ap (locks.without_caller c) (t.holders s below) ∙ without c (holder_of stripes s h)

  module _ (op : Op) (key : ℕ) (key_is : key ≡ key_of op) where
    stripe_is : key % live.stripes ≡ stripe_of stripes (key_of op)
    stripe_is = λ i. key_is i % t.stripes_are i

    below_stripes : stripe_of stripes (key_of op) < stripes
    below_stripes = let some : 0 < live.stripes = live.some_stripes in let same = t.stripes_are in omega arith

    held : locks.holder_of live.locks (key % live.stripes) ≡ holder_of stripes (stripe_of stripes (key_of op)) h
    held = ap (locks.holder_of live.locks) stripe_is ∙ t.holders (stripe_of stripes (key_of op)) below_stripes

    abbrev asked_test : Option ℕ → Bool
    asked_test o = elim o as (λ o. Bool) [ None ↦ true | Some d ↦ d == c ]

    -- If the stripe is granted to the caller, the caller's Asked entry keeps the rule of locks.
    pub asked-granted : (new : List (Option ℕ)) → locks.Grants c (key % live.stripes) live.locks new → is_locked holder stripes h (Asked c op) ≡ true
    asked-granted new is = is_locked-asked holder stripes h c op legal.shape legal.locks ∙ elim is.open_to_caller [
      | inl none ↦ ap asked_test (sym held ∙ none)
      | inr mine ↦ ap asked_test (sym held ∙ mine) ∙ eq-eqb c c refl
    ]

    pub asked-refused : (other : ℕ) (new : List (Option ℕ)) → locks.Refuses c (key % live.stripes) other live.locks new → is_locked holder stripes h (Asked c op) ≡ false
    asked-refused other new is = is_locked-asked holder stripes h c op legal.shape legal.locks ∙ ap asked_test (sym held ∙ is.held) ∙ ne_eqb other c is.by_another

    -- If `holder` is `Now`, a Busy entry that names another caller keeps the rule of locks exactly
    -- if that caller holds the stripe.
    pub busy-held : holder ≡ Now → (x : ℕ) → x ≢ c → is_locked holder stripes h (Busy c op x) ≡ option_eq nat_eq (locks.holder_of live.locks (key % live.stripes)) (Some x)
    busy-held now x other =
        is_locked-busy holder stripes h c op x legal.shape legal.locks
        ∙ ap (λ (r : Holder). not (x == c) && elim r as (λ r. Bool) [ Now ↦ option_eq nat_eq (holder_of stripes (stripe_of stripes (key_of op)) h) (Some x) | Begun ↦ has_begun x h ]) now
        ∙ ap (λ b. not b && option_eq nat_eq (holder_of stripes (stripe_of stripes (key_of op)) h) (Some x)) (ne_eqb x c other)
        ∙ ap (λ o. option_eq nat_eq o (Some x)) (sym held)

    -- If a stripe is granted, the caller holds it, and the other stripes keep their holders.
    pub granted : (new : List (Option ℕ)) → locks.Grants c (key % live.stripes) live.locks new → (s : ℕ) → s < stripes → locks.holder_of new s ≡ cond (stripe_of stripes (key_of op) == s) (Some c) (holder_of stripes s h)
    granted new is s below = is.each s ∙ (λ i. cond ((ap (λ r. s == r) stripe_is ∙ same_test s (stripe_of stripes (key_of op))) i) (Some c) (t.holders s below i))
