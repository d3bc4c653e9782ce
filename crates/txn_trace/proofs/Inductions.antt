-- Induction over histories of the right shape, entry by entry.
use Rattle.std.proofs.Common.{◌≡◌, ℕ, true, List, [], ◌∷◌, ◌++◌, refl, sym, subst, append_assoc}
use Rattle.std.proofs.lemmas.List.{append-nil}
use Rattle.txn_words.specs.declared.entry.Entry.{Entry}
use Rattle.txn_words.specs.declared.holder.Holder.{Holder}
use Rattle.txn_trace.specs.Locks.{is_locked, LocksHold}
use Rattle.txn_words.specs.Shape.{is_shaped, IsShaped}
use Rattle.txn_trace.proofs.Callers.{Callers, callers_none}
use Rattle.txn_trace.proofs.Shaped.{callers_push, shape_front}

module _ (P : List Entry → Type 0) (step : (g : List Entry) (e : Entry) → IsShaped g → Callers g → is_shaped g e ≡ true → P g → P (g ++ e ∷ [])) where
  by_entries_from : (g rest : List Entry) → Callers g → P g → IsShaped (g ++ rest) → P (g ++ rest)
  by_entries_from g [] callers is shape = subst P (sym (append-nil g)) is
  by_entries_from g (e ∷ rest) callers is shape =
      let shaped = shape g e (rest, append_assoc g (e ∷ []) rest) in
      subst P (append_assoc g (e ∷ []) rest)
      (by_entries_from (g ++ e ∷ []) rest (callers_push g e callers shaped) (step g e (shape_front (g ++ e ∷ rest) g shape (e ∷ rest, refl)) callers shaped is) (subst IsShaped (sym (append_assoc g (e ∷ []) rest)) shape))

  -- If a statement is true for the empty history, and each entry of the right shape preserves it,
  -- the statement is true for each history of the right shape.
  pub by_entries : P [] → (h : List Entry) → IsShaped h → P h
  by_entries none h shape = by_entries_from [] h callers_none none shape

module _ (holder : Holder) (stripes : ℕ) (P : List Entry → Type 0) (step : (g : List Entry) (e : Entry) → IsShaped g → Callers g → is_shaped g e ≡ true → is_locked holder stripes g e ≡ true → P g → P (g ++ e ∷ [])) where
  by_locked_entries_from : (g rest : List Entry) → Callers g → P g → IsShaped (g ++ rest) → LocksHold holder stripes (g ++ rest) → P (g ++ rest)
  by_locked_entries_from g [] callers is shape locks = subst P (sym (append-nil g)) is
  by_locked_entries_from g (e ∷ rest) callers is shape locks =
      let shaped = shape g e (rest, append_assoc g (e ∷ []) rest) in
      let locked = locks g e (rest, append_assoc g (e ∷ []) rest) in
      let back = sym (append_assoc g (e ∷ []) rest) in
      subst P (append_assoc g (e ∷ []) rest)
      (by_locked_entries_from (g ++ e ∷ []) rest (callers_push g e callers shaped) (step g e (shape_front (g ++ e ∷ rest) g shape (e ∷ rest, refl)) callers shaped locked is) (subst IsShaped back shape) (subst (LocksHold holder stripes) back locks))

  -- Induction over histories of the right shape in which the rule of locks holds too.
  pub by_locked_entries : P [] → (h : List Entry) → IsShaped h → LocksHold holder stripes h → P h
  by_locked_entries none h shape locks = by_locked_entries_from [] h callers_none none shape locks
