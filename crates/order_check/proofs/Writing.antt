-- Shows that the writers that are found are those of the history, because the accesses are the
-- footprints of the committed transactions, in the order of their commits.
use Rattle.std.proofs.Common.{◌≡◌, ◌==◌, ◌&&◌, ℕ, ◌<◌, ◌≤◌, cond, not, Bool, true, false, Option, None, List, [], ◌∷◌, length, map, filter, refl, ap, sym, ◌∙◌, subst, arith}
use Rattle.std.specs.Prelude.{nat_eq}
use Rattle.std.specs.Option.{option_eq}
use Rattle.std.proofs.lemmas.Bool.{and_from, and_parts, eq-eqb, eqb-true, false≢true}
use mathlib.Core.Logic.{inl, inr}
use Rattle.txn_words.specs.declared.entry.Entry.{Entry}
use Rattle.txn_words.specs.Shape.{IsShaped}
use Rattle.txn_trace.proofs.Now.{same_option, same_is}
use Rattle.txn_trace.specs.History.{commits}
use Rattle.order_check.specs.declared.access.Access.{Access}
use Rattle.order_check.specs.InTurn.{AreRising}
use Rattle.order_check.specs.Joined.{AreDistinct}
use Rattle.order_check.specs.Kept.{HaveAccesses}
use Rattle.order_check.specs.Lists.{IsIn, place}
use Rattle.order_check.specs.Outcomes.{ArePlain}
use Rattle.order_check.specs.Reasons.{AreInOrder, AreWriters}
use Rattle.order_check.specs.Tables.{Version, DoesWrite, IsAmong}
use Rattle.order_check.specs.Writers.{does_write, named_by}
use Rattle.order_check.proofs.AccessOutcomes.{writer_is, writer_from}
use Rattle.order_check.proofs.ByCommits.{commits_run}
use Rattle.order_check.proofs.Numbers.{place_at}

-- The test and what it tests.
writes : (q : Version) (a : Access) → does_write q a ≡ true → DoesWrite q a
writes q a is =
    let parts = and_parts (a.key == q.0) (option_eq nat_eq a.left q.1 && not (option_eq nat_eq a.need a.left)) is in
    let rest = and_parts (option_eq nat_eq a.left q.1) (not (option_eq nat_eq a.need a.left)) parts.1 in
    (eqb-true a.key q.0 parts.0, same_option a.left q.1 rest.0, λ same. false≢true (sym (ap not (same_is a.need a.left same)) ∙ rest.1))

written : (q : Version) (a : Access) → DoesWrite q a → does_write q a ≡ true
written q a does =
    and_from (a.key == q.0) (option_eq nat_eq a.left q.1 && not (option_eq nat_eq a.need a.left)) (eq-eqb a.key q.0 does.0)
    (and_from (option_eq nat_eq a.left q.1) (not (option_eq nat_eq a.need a.left)) (same_is a.left q.1 does.1) (at (option_eq nat_eq a.need a.left) refl))
  where
    at : (b : Bool) → option_eq nat_eq a.need a.left ≡ b → not b ≡ true
    at true is = absurd (does.2 (same_option a.need a.left is))
    at false is = refl

-- An access that writes, and its name.
record Writer (f : Access → ℕ) (p : Access → Bool) (t : ℕ) (xs : List Access) : Type 0 where
  by : Access
  is_among : IsAmong by xs
  does : p by ≡ true
  name_is : f by ≡ t

module _ (f : Access → ℕ) (p : Access → Bool) where
  later_writer : (t : ℕ) (x : Access) (xs : List Access) → Writer f p t xs → Writer f p t (x ∷ xs)
  later_writer t x xs w = record { by = w.by; is_among = inr w.is_among; does = w.does; name_is = w.name_is }

  kept_from : (t : ℕ) (xs : List Access) → IsIn t (map f (filter p xs)) → Writer f p t xs
  kept_from t [] is_in = absurd is_in
  kept_from t (x ∷ xs) is_in = at (p x) refl (λ rest. kept_from t xs rest) is_in
    where
      at : (b : Bool) → p x ≡ b → (IsIn t (map f (filter p xs)) → Writer f p t xs) → IsIn t (map f (cond b (x ∷ filter p xs) (filter p xs))) → Writer f p t (x ∷ xs)
      at true is later there = elim there [
        | inl same ↦ record { by = x; is_among = inl refl; does = is; name_is = same }
        | inr rest ↦ later_writer t x xs (later rest)
      ]
      at false is later there = later_writer t x xs (later there)

  kept_to : (a : Access) (xs : List Access) → IsAmong a xs → p a ≡ true → IsIn (f a) (map f (filter p xs))
  kept_to a [] is_among does = absurd is_among
  kept_to a (x ∷ xs) is_among does = at (p x) refl (λ rest. kept_to a xs rest does) is_among
    where
      at : (b : Bool) → p x ≡ b → (IsAmong a xs → IsIn (f a) (map f (filter p xs))) → IsAmong a (x ∷ xs) → IsIn (f a) (map f (cond b (x ∷ filter p xs) (filter p xs)))
      at true is later (inl same) = inl (ap f same)
      at true is later (inr rest) = inr (later rest)
      at false is later (inl same) = absurd (false≢true (sym is ∙ ap p same ∙ does))
      at false is later (inr rest) = later rest

rising_at : (n : ℕ) (b : Access) (xs : List Access) → AreRising n xs → IsAmong b xs → n ≤ b.txn
rising_at n b [] rising is_among = absurd is_among
rising_at n b (x ∷ xs) rising (inl same) = subst (λ (y : Access). n ≤ y.txn) same rising.0
rising_at n b (x ∷ xs) rising (inr rest) = let late = rising_at x.txn b xs rising.1 rest in let first = rising.0 in omega arith

module _ (h : List Entry) (shape : IsShaped h) (q : Version) where
  abbrev name : Access → ℕ
  name a = named_by (commits h) a

  in_turn : (n : ℕ) (xs : List Access) → ((a : Access) → IsAmong a xs → a.txn < length (commits h)) → AreDistinct xs → AreRising n xs → AreInOrder h (map name (filter (does_write q) xs))
  in_turn n [] below distinct rising = tt
  in_turn n (x ∷ xs) below distinct rising = at (does_write q x) refl (in_turn x.txn xs (λ a is_among. below a (inr is_among)) distinct.1 rising.1)
    where
      place_of : (a : Access) → IsAmong a (x ∷ xs) → place (name a) (commits h) ≡ a.txn
      place_of a is_among = place_at (commits h) a.txn (commits_run h shape).apart (below a is_among)

      first : does_write q x ≡ true → (u : ℕ) → IsIn u (map name (filter (does_write q) xs)) → place (name x) (commits h) < place u (commits h)
      first is u is_in =
          let w = kept_from name (does_write q) u xs is_in in
          let apart = distinct.0 w.by w.is_among in
          let late = rising_at x.txn w.by xs rising.1 w.is_among in
          let same_key = (writes q x is).0 ∙ sym (writes q w.by w.does).0 in
          let other : x.txn ≡ w.by.txn → ⊥ = λ same. apart same same_key in
          let less : x.txn < w.by.txn = omega arith in
          subst (λ t. place (name x) (commits h) < place t (commits h)) w.name_is
          (subst (λ m. m < place (name w.by) (commits h)) (sym (place_of x (inl refl))) (subst (λ m. x.txn < m) (sym (place_of w.by (inr w.is_among))) less))

      at : (b : Bool) → does_write q x ≡ b → AreInOrder h (map name (filter (does_write q) xs)) → AreInOrder h (map name (cond b (x ∷ filter (does_write q) xs) (filter (does_write q) xs)))
      at true is rest = (first is, rest)
      at false is rest = rest

-- The writers that are found.
pub writers_are : (h : List Entry) (shape : IsShaped h) (accesses : List Access) → ArePlain (length (commits h)) accesses → HaveAccesses h None accesses → (k : ℕ) (v : Option ℕ) (ts : List ℕ) → ts ≡ map (named_by (commits h)) (filter (does_write (k, v)) accesses) → AreWriters h k v ts
writers_are h shape accesses plain have k v ts is =
    let kept = λ (a : Access). named_by (commits h) a in
    subst (AreWriters h k v) (sym is) (record {
      only = λ t is_in.
          let w = kept_from kept (does_write (k, v)) t accesses is_in in
          writer_is h accesses plain have k v t w.by w.is_among (writes (k, v) w.by w.does) w.name_is;
      all = λ t committed may.
          let w = writer_from h accesses plain have k v t committed may in
          subst (λ u. IsIn u (map kept (filter (does_write (k, v)) accesses))) w.3 (kept_to kept (does_write (k, v)) w.0 accesses w.1 (written (k, v) w.0 w.2));
      in_order = in_turn h shape (k, v) 0 accesses plain.below plain.distinct plain.rising;
    })
