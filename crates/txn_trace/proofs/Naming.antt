-- The callers that a `Busy` may name: the two rules compared.
use Rattle.std.proofs.Common.{◌≡◌, ◌≢◌, ℕ, ◌==◌, ◌&&◌, ◌||◌, Bool, true, false, cond, not, List, [], ◌∷◌, ◌++◌, refl, ap, sym, ◌∙◌, Some, is_some, append_assoc}
use Rattle.std.specs.Option.{option_eq}
use Rattle.std.specs.Prelude.{nat_eq}
use Rattle.std.proofs.lemmas.Bool.{false≢true, and_parts, and_from, or_left, or_right, cases_Bool, eq-eqb, ne_eqb}
use Rattle.std.proofs.lemmas.List.Folds.{list_any-append}
use mathlib.Core.Logic.{inl, inr}
use mathlib.Core.List.{IsPrefix}
use Rattle.txn_words.specs.declared.entry.Entry.{Entry}
use Rattle.txn_words.specs.declared.entry.Entry.TheVariants.{Began, Asked, Busy}
use Rattle.txn_words.specs.declared.holder.Holder.{Holder}
use Rattle.txn_words.specs.declared.holder.Holder.TheVariants.{Now, Begun}
use Rattle.txn_words.specs.Map.{key_of}
use Rattle.txn_trace.specs.History.{txn_after}
use Rattle.txn_words.specs.Kinds.{caller_of, is_began}
use Rattle.txn_trace.specs.Locks.{stripe_of, holder_of, has_begun, is_locked, LocksHold}
use Rattle.txn_words.specs.Shape.{is_shaped, IsShaped}
use Rattle.txn_trace.specs.Legal.{IsLegal}
use Rattle.txn_trace.proofs.Pushes.{txn_in, txn_in-push}
use Rattle.txn_trace.proofs.Callers.{Callers}
use Rattle.txn_trace.proofs.Shaped.{shape_front}
use Rattle.txn_trace.proofs.Now.{same_option}
use Rattle.txn_trace.proofs.Inductions.{by_entries}
use Rattle.txn_trace.proofs.Holders.{is_locked-busy}
use Rattle.txn_trace.proofs.HeldStripes.{holder_txn}

or_false : (b : Bool) → (b || false) ≡ b
or_false true = refl
or_false false = refl

and_false : (b : Bool) → (b && false) ≡ false
and_false true = refl
and_false false = refl

has_begun-push : (c : ℕ) (g : List Entry) (e : Entry) → has_begun c (g ++ e ∷ []) ≡ (has_begun c g || (is_began e && caller_of e == c))
has_begun-push c g e = list_any-append (λ f. is_began f && caller_of f == c) g (e ∷ []) ∙ ap (λ b. has_begun c g || b) (or_false (is_began e && caller_of e == c))

-- After an entry, the entry's caller has begun a transaction exactly if it had begun one before or
-- the entry is a `Began`. For every other caller the entry changes nothing.
pub has_begun-own : (g : List Entry) (e : Entry) → has_begun (caller_of e) (g ++ e ∷ []) ≡ (has_begun (caller_of e) g || is_began e)
has_begun-own g e = has_begun-push (caller_of e) g e ∙ ap (λ b. has_begun (caller_of e) g || b) (ap (λ b. is_began e && b) (eq-eqb (caller_of e) (caller_of e) refl) ∙ and_true (is_began e))
  where
    and_true : (b : Bool) → (b && true) ≡ b
    and_true true = refl
    and_true false = refl

pub has_begun-other : (c : ℕ) (g : List Entry) (e : Entry) → c ≢ caller_of e → has_begun c (g ++ e ∷ []) ≡ has_begun c g
has_begun-other c g e other = has_begun-push c g e ∙ ap (λ b. has_begun c g || b) (ap (λ b. is_began e && b) (ne_eqb (caller_of e) c (λ is. other (sym is))) ∙ and_false (is_began e)) ∙ or_false (has_begun c g)

-- If `txn_in` gives a transaction for a caller, `has_begun` is true for this caller.
pub txn_begun : (c : ℕ) (g : List Entry) → IsShaped g → is_some (txn_in g c) ≡ true → has_begun c g ≡ true
txn_begun c g shape = by_entries (λ h. is_some (txn_in h c) ≡ true → has_begun c h ≡ true) step (λ none. absurd (false≢true none)) g shape
  where
    step : (g : List Entry) (e : Entry) → IsShaped g → Callers g → is_shaped g e ≡ true → (is_some (txn_in g c) ≡ true → has_begun c g ≡ true) → is_some (txn_in (g ++ e ∷ []) c) ≡ true → has_begun c (g ++ e ∷ []) ≡ true
    step g e shape callers shaped was has = has_begun-push c g e ∙ at e (ap (λ f. is_some (f c)) (sym (txn_in-push g e)) ∙ has)
      where
        at : (e : Entry) → is_some (txn_after (txn_in g) e c) ≡ true → (has_begun c g || (is_began e && caller_of e == c)) ≡ true
        at (Began d t) has = elim (cases_Bool (d == c)) [
          | inl mine ↦ or_right (has_begun c g) _ mine
          | inr other ↦ or_left (has_begun c g) _ (was (ap (λ b. is_some (cond b (Some t) (txn_in g c))) (sym other) ∙ has))
        ]
        at _ has = or_left (has_begun c g) _ (was has)

-- The holder of a stripe has begun a transaction.
pub holder_begun : (stripes : ℕ) (g : List Entry) → IsShaped g → (s c : ℕ) → holder_of stripes s g ≡ Some c → has_begun c g ≡ true
holder_begun stripes g shape s c holds = txn_begun c g shape (ap is_some (holder_txn stripes g shape s c holds).in_it)

-- An entry that is legal by the rule Now is legal by the rule Begun.
is_locked-begun : (stripes : ℕ) (g : List Entry) (e : Entry) → IsShaped g → LocksHold Now stripes g → is_locked Now stripes g e ≡ true → is_locked Begun stripes g e ≡ true
is_locked-begun stripes g (Busy c op x) shape locks locked =
    let s = stripe_of stripes (key_of op) in
    let parts = and_parts (not (x == c)) (option_eq nat_eq (holder_of stripes s g) (Some x)) (sym (is_locked-busy Now stripes g c op x shape locks) ∙ locked) in
    and_from (not (x == c)) (has_begun x g) parts.0 (holder_begun stripes g shape s x (same_option (holder_of stripes s g) (Some x) parts.1))
is_locked-begun stripes g (Asked c op) shape locks locked = locked
is_locked-begun stripes g _ shape locks locked = refl

-- If the rule of locks holds for a history, it holds for each prefix of the history.
locks_front : (holder : Holder) (stripes : ℕ) (h g : List Entry) → LocksHold holder stripes h → IsPrefix g h → LocksHold holder stripes g
locks_front holder stripes h g locks p f e q = locks f e (q.0 ++ p.0, sym (append_assoc (f ++ e ∷ []) q.0 p.0) ∙ ap (λ w. w ++ p.0) q.1 ∙ p.1)

-- A history that is legal by the rule Now is legal by the rule Begun.
pub legal_begun : (stripes : ℕ) (h : List Entry) → IsLegal Now stripes h → IsLegal Begun stripes h
legal_begun stripes h legal = record {
  replies = legal.replies;
  locks = λ g e p.
      let front : g ++ e ∷ p.0 ≡ h = sym (append_assoc g (e ∷ []) p.0) ∙ p.1 in
      is_locked-begun stripes g e (shape_front h g legal.shape (e ∷ p.0, front)) (locks_front Now stripes h g legal.locks (e ∷ p.0, front)) (legal.locks g e p);
  shape = legal.shape;
}
