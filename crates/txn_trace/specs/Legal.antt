-- PROMISES each-transaction-as-if-alone: IsLegal
-- PROMISES the-judge-of-histories: verdict, IsLegal
-- Legal histories, and the verdict on any history.
use Rattle.std.specs.Prelude.{ℕ, ◌+◌, Bool, true, false, not, Option, Some, None, is_some, List, [], ◌∷◌, ◌++◌, length, max, if◌then◌else◌}
use Rattle.std.specs.List.{filter, fold, list_all, range_with_len}
use Rattle.txn_words.specs.declared.entry.Entry.{Entry}
use Rattle.txn_words.specs.declared.holder.Holder.{Holder}
use Rattle.txn_trace.specs.History.{of, open_txns}
use Rattle.txn_words.specs.Kinds.{caller_of, is_commit}
use Rattle.txn_trace.specs.Alone.{alone}
use Rattle.txn_trace.specs.Serial.{serial}
use Rattle.txn_trace.specs.Replies.{RepliesHold}
use Rattle.txn_trace.specs.Locks.{is_locked, LocksHold}
use Rattle.txn_words.specs.declared.stance.Phase.{Phase}
use Rattle.txn_words.specs.declared.stance.Phase.TheVariants.{Closed}
use Rattle.txn_words.specs.Shape.{Stance, stance_after, own, how_many, is_shaped, IsShaped}

-- A history is legal if it keeps the rules of replies, of locks and of shape. `holder` says which
-- caller a Busy entry may name.
pub record IsLegal (holder : Holder) (stripes : ℕ) (h : List Entry) : Type 0 where
  pub replies : RepliesHold h
  pub locks : LocksHold holder stripes h
  pub shape : IsShaped h

-- Whether each open transaction has the same replies as if it ran alone on the map that the
-- committed transactions leave.
abbrev pub replies_hold : List Entry → Bool
replies_hold g = list_all (λ t. is_some (alone (serial g) (of t g))) (open_txns g)

-- The number of the rule that the entry `e` breaks if it follows the history `g`, or None if it
-- breaks no rule. The rules are tested in this order: shape (3), replies (1), locks (2).
abbrev pub broken : Holder → ℕ → List Entry → Entry → Option ℕ
broken holder stripes g e =
    if not (is_shaped g e) then Some 3 else
    if not (replies_hold (g ++ e ∷ [])) then Some 1 else
    if not (is_locked holder stripes g e) then Some 2 else None

-- The number of the first entry of `h` that breaks a rule, and the number of that rule, or None if
-- no entry breaks a rule. `broken` says which rule an entry breaks if it follows a history. The
-- entries of `h` follow the history `g`. The first entry of `h` has the number `i`.
abbrev pub first_bad_by : (List Entry → Entry → Option ℕ)
    → List Entry → List Entry → ℕ → Option (ℕ × ℕ)
first_bad_by broken g [] i = None
first_bad_by broken g (e ∷ h) i = elim (broken g e) [
  | Some rule ↦ Some (i, rule)
  | None ↦ first_bad_by broken (g ++ e ∷ []) h (i + 1)
]

-- The first bad entry by the rules of legal histories.
abbrev pub first_bad : Holder → ℕ → List Entry → List Entry → ℕ → Option (ℕ × ℕ)
first_bad holder stripes g h i = first_bad_by (broken holder stripes) g h i

-- Whether a caller in this phase is in a transaction.
abbrev pub runs : Phase → Bool
runs Closed = false
runs _ = true

-- Whether a caller is in a transaction.
abbrev pub is_running : Option Stance → Bool
is_running None = false
is_running (Some s) = runs s.phase

-- One more than the greatest caller number in a history, or 0 if the history has no entries.
abbrev pub callers_in : List Entry → ℕ
callers_in h = fold (λ n e. max n (caller_of e + 1)) 0 h

-- The callers that are in a transaction and whose number is below `callers`.
abbrev pub running : ℕ → List Entry → List ℕ
running callers h = filter (λ c. is_running (stance_after (own c h))) (range_with_len 0 callers)

-- A verdict is Legal or Illegal. Legal has the number of commits and the number of callers that are
-- in a transaction. Illegal has the number of the first bad entry and the number of the rule that
-- this entry breaks.
pub data Verdict : Type 0 where
  Legal : ℕ → ℕ → Verdict
  Illegal : ℕ → ℕ → Verdict

-- The verdict on a history, by any rules.
abbrev pub verdict_by : (List Entry → Entry → Option ℕ) → List Entry → Verdict
verdict_by broken h = elim (first_bad_by broken [] h 0) [
  | None ↦ Legal (how_many is_commit h) (length (running (callers_in h) h))
  | Some bad ↦ Illegal bad.0 bad.1
]

-- The verdict on a history, by the rules of legal histories.
abbrev pub verdict : Holder → ℕ → List Entry → Verdict
verdict holder stripes h = verdict_by (broken holder stripes) h
