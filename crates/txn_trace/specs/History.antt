-- A history is a list of entries. An entry belongs to a transaction if its caller has begun one.
-- Each transaction is committed, aborted or open.
use Rattle.std.specs.Prelude.{ℕ, ◌==◌, Bool, false, not, ◌||◌, Option, Some, None, List, [], ◌∷◌, map, nat_eq, if◌then◌else◌}
use Rattle.std.specs.Option.{option_eq}
use Rattle.std.specs.List.{filter, filter_map, fold}
use Rattle.txn_words.specs.declared.entry.Entry.{Entry}
use Rattle.txn_words.specs.declared.entry.Entry.TheVariants.{Began}
use Rattle.txn_words.specs.Kinds.{caller_of, is_abort, is_began, is_commit}

-- An entry and the transaction that it belongs to, if there is one.
pub record Line : Type 0 where
  pub txn : Option ℕ
  pub entry : Entry

-- The transaction of caller `x` after an entry. If the entry is a `Began` of `x`, it is the
-- transaction that begins. Otherwise it is what `before` gives for `x`.
abbrev pub txn_after : (ℕ → Option ℕ) → Entry → ℕ → Option ℕ
txn_after before (Began c t) x = if c == x then Some t else before x
txn_after before _ x = before x

-- Each entry with its transaction. `before` gives each caller's transaction before the first entry.
abbrev pub lines_from : (ℕ → Option ℕ) → List Entry → List Line
lines_from before [] = []
lines_from before (e ∷ h) =
    record { txn = txn_after before e (caller_of e); entry = e } ∷ lines_from (txn_after before e) h

-- Each entry of a history with its transaction.
abbrev pub lines_of : List Entry → List Line
lines_of h = lines_from (λ c. None) h

-- Whether an entry belongs to the transaction `t`.
abbrev pub is_of : ℕ → Line → Bool
is_of t line = option_eq nat_eq line.txn (Some t)

-- The entries of a transaction, in order.
abbrev pub of : ℕ → List Entry → List Entry
of t h = map (λ line. line.entry) (filter (is_of t) (lines_of h))

-- Whether the last entry of a list passes a test.
abbrev pub ends_in : (Entry → Bool) → List Entry → Bool
ends_in test h = fold (λ before e. test e) false h

-- Whether the entries of a transaction end with Committed.
abbrev pub is_committed : ℕ → List Entry → Bool
is_committed t h = ends_in is_commit (of t h)

-- Whether the entries of a transaction end with Aborted.
abbrev pub is_aborted : ℕ → List Entry → Bool
is_aborted t h = ends_in is_abort (of t h)

-- Whether a transaction is neither committed nor aborted.
abbrev pub is_open : ℕ → List Entry → Bool
is_open t h = not (is_committed t h || is_aborted t h)

-- The transactions of the entries that pass a test, in the order of these entries.
abbrev pub txns_of : (Entry → Bool) → List Entry → List ℕ
txns_of test h = filter_map (λ line. if test line.entry then line.txn else None) (lines_of h)

-- The committed transactions, in the order of their Committed entries.
abbrev pub commits : List Entry → List ℕ
commits h = filter (λ t. is_committed t h) (txns_of is_commit h)

-- The open transactions, in the order of their Began entries. If the history has the right shape,
-- their numbers rise.
abbrev pub open_txns : List Entry → List ℕ
open_txns h = filter (λ t. is_open t h) (txns_of is_began h)
