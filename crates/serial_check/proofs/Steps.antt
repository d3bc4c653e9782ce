-- What one more entry of the right shape does to transactions and to the committed map.
use Rattle.std.proofs.Common.{◌≡◌, ◌≢◌, ℕ, true, false, List, [], ◌∷◌, ◌++◌, refl, ap, sym, ◌∙◌, Some}
use Rattle.std.proofs.lemmas.Bool.{false≢true}
use mathlib.Core.Logic.{inl, inr}
use Rattle.txn_words.specs.declared.entry.Entry.{Entry}
use Rattle.txn_trace.specs.History.{is_open, of}
use Rattle.txn_words.specs.Kinds.{caller_of, is_began, is_commit}
use Rattle.txn_trace.specs.Alone.{map_after}
use Rattle.txn_trace.specs.Serial.{serial}
use Rattle.txn_words.specs.Shape.{is_shaped, IsShaped}
use Rattle.txn_trace.proofs.Pushes.{txn_at, of-push_in, of-push_out}
use Rattle.txn_trace.proofs.Callers.{Callers, is_end, at_is, not_began_is}
use Rattle.txn_trace.proofs.Shaped.{callers_of, step, same, not_ended_before, ended_in}
use Rattle.txn_trace.proofs.StanceRuns.{have_stances, none_before}
use Rattle.txn_trace.proofs.Steps.{serial-push_other, serial-push_commit, map_after-commit}
use Rattle.txn_trace.proofs.Now.{open_going, going_open}
use Rattle.txn_trace.proofs.BadEntries.{shape_push}
use Rattle.serial_check.specs.Serializable.{txn_in}

module _ (g : List Entry) (e : Entry) (shape : IsShaped g) (shaped : is_shaped g e ≡ true) where
  callers : Callers g
  callers = callers_of g shape

  shape_after : IsShaped (g ++ e ∷ [])
  shape_after = shape_push g e shape shaped

  pub serial_stays : is_commit e ≡ false → serial (g ++ e ∷ []) ≡ serial g
  serial_stays other = serial-push_other g e callers shape shaped shape_after other

  pub serial_grows : (t : ℕ) → is_commit e ≡ true → txn_at g e ≡ Some t → serial (g ++ e ∷ []) ≡ map_after (serial g) (of t g)
  serial_grows t commit at = serial-push_commit g e callers shape shaped shape_after t commit at ∙ ap (map_after (serial g)) (of-push_in t g e at) ∙ map_after-commit (serial g) (of t g) e commit

  -- If the entry begins no transaction, and a transaction of its caller is open after it, this
  -- transaction was open before. The entry is the newest one of the transaction.
  pub was_there : is_began e ≡ false → (t : ℕ) → txn_in (g ++ e ∷ []) (caller_of e) ≡ Some t → is_open t (g ++ e ∷ []) ≡ true
      → (txn_in g (caller_of e) ≡ Some t) × (is_open t g ≡ true) × (of t (g ++ e ∷ []) ≡ of t g ++ e ∷ [])
  was_there began t in_t is_going = elim (step g e callers shaped (caller_of e) t in_t) [
    | inl mine ↦ (not_began_is g e t began (at_is g e t mine.1), open_going t g (not_ended_before g e callers shaped t (going_open t (g ++ e ∷ []) is_going)), of-push_in t g e mine.1)
    | inr other ↦ absurd (other.0 refl)
  ]

  -- If the entry begins a transaction, this transaction has no other entry.
  pub begins_there : is_began e ≡ true → (t : ℕ) → txn_in (g ++ e ∷ []) (caller_of e) ≡ Some t → of t (g ++ e ∷ []) ≡ e ∷ []
  begins_there began t in_t = elim (step g e callers shaped (caller_of e) t in_t) [
    | inl mine ↦ of-push_in t g e mine.1 ∙ ap (λ es. es ++ e ∷ []) (none_before g e callers shaped (have_stances g shape) t began mine.1)
    | inr other ↦ absurd (other.0 refl)
  ]

  -- A transaction that the entry ends is not open after it.
  pub none_open : is_end e ≡ true → (t : ℕ) → txn_in (g ++ e ∷ []) (caller_of e) ≡ Some t → is_open t (g ++ e ∷ []) ≡ true → ⊥
  none_open end t in_t is_going = elim (step g e callers shaped (caller_of e) t in_t) [
    | inl mine ↦ false≢true (sym (going_open t (g ++ e ∷ []) is_going) ∙ ended_in g e callers shaped t mine.1 ∙ end)
    | inr other ↦ absurd (other.0 refl)
  ]

  -- If a transaction of another caller is open after the entry, it was open before, with the same
  -- entries.
  pub other_txn : (d : ℕ) → d ≢ caller_of e → (t : ℕ) → txn_in (g ++ e ∷ []) d ≡ Some t → is_open t (g ++ e ∷ []) ≡ true
      → (txn_in g d ≡ Some t) × (is_open t g ≡ true) × (of t (g ++ e ∷ []) ≡ of t g)
  other_txn d apart t in_t is_going = elim (step g e callers shaped d t in_t) [
    | inl mine ↦ absurd (apart mine.0)
    | inr other ↦ (
      other.1,
      open_going t g (not_ended_before g e callers shaped t (going_open t (g ++ e ∷ []) is_going)),
      of-push_out t g e (λ at. apart (sym (same g e callers shaped d t at other.1))),
    )
  ]
