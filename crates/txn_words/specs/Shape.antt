-- The rule of shape: which entries a caller may add in each phase, and which stance the caller has
-- after each entry.
use Rattle.std.specs.Prelude.{ℕ, ◌+◌, ◌-◌, ◌==◌, Bool, true, false, ◌&&◌, Option, Some, None, is_some, IsTrue, List, [], ◌∷◌, ◌++◌, length, take, slice_index, nat_eq, nat_lt, if◌then◌else◌}
use Rattle.std.specs.Option.{option_eq, option_and_then}
use Rattle.std.specs.List.{fold, filter}
use mathlib.Core.List.{IsPrefix}
use Rattle.txn_words.specs.declared.op.Op.{Op}
use Rattle.txn_words.specs.declared.op.Op.TheVariants.{Put, Take, Get, PutIf}
use Rattle.txn_words.specs.declared.entry.Entry.{Entry}
use Rattle.txn_words.specs.declared.entry.Entry.TheVariants.{Began, Asked, Did, Saved, Leave, Undone, Returned, Committed, Busy, Aborted}
use Rattle.txn_words.specs.declared.stance.Phase.{Phase}
use Rattle.txn_words.specs.declared.stance.Phase.TheVariants.{Closed, Opened, Waiting, LeavingTo, LeavingToEnd}
use Rattle.txn_words.specs.Kinds.{caller_of, is_began, is_commit}

-- A caller's phase, the number of its standing changes, and, for each of its levels, the number of
-- changes that stood when the level was set. For level 0 this number is 0.
pub record Stance : Type 0 where
  pub phase : Phase
  pub standing : ℕ
  pub kept : List ℕ

-- A stance in memory, and the number of further Saved entries that it has memory for.
pub record RoomyStance : Type 0 where
  pub stance : Stance
  pub room : ℕ

-- The number of levels that the stance has memory for, including level 0.
abbrev pub capacity : RoomyStance → ℕ
capacity roomy = length roomy.stance.kept + roomy.room

-- The stance of a caller without a transaction.
abbrev pub closed_stance : Stance
closed_stance = record { phase = Closed; standing = 0; kept = 0 ∷ [] }

-- Whether an operation with this reply was a change.
abbrev pub changes : Op → Option ℕ → Bool
changes (Put k v) r = true
changes (Take k) r = is_some r
changes (Get k) r = false
changes (PutIf k expected v) r = option_eq nat_eq r expected

-- The stance after an entry, or None if the entry is not allowed in this stance and phase.
abbrev pub row : Stance → Phase → Entry → Option Stance
row s Closed (Began c t) = Some (record closed_stance { phase = Opened })
row s Opened (Asked c op) = Some (record s { phase = Waiting op })
row s Opened (Busy c op x) = Some (record s { phase = LeavingToEnd })
row s Opened (Saved c) = Some (record s { kept = s.kept ++ s.standing ∷ [] })
row s Opened (Leave c None) = Some (record s { phase = LeavingToEnd })
row s Opened (Leave c (Some n)) =
    if nat_lt n (length s.kept) then Some (record s { phase = LeavingTo n }) else None
row s Opened (Committed c p) = Some closed_stance
row s (Waiting op) (Did c r) = Some (record s {
  phase = Opened;
  standing = if changes op r then s.standing + 1 else s.standing;
})
row s (Waiting op) (Leave c None) = Some (record s { phase = LeavingToEnd })
row s (LeavingTo n) (Undone c) =
    if nat_lt (slice_index s.kept n) s.standing
    then Some (record s { standing = s.standing - 1 })
    else None
row s (LeavingTo n) (Returned c m) =
    if (n == m) && (slice_index s.kept n == s.standing)
    then Some (record s { phase = Opened; kept = take (n + 1) s.kept })
    else None
row s LeavingToEnd (Undone c) =
    if nat_lt 0 s.standing then Some (record s { standing = s.standing - 1 }) else None
row s LeavingToEnd (Aborted c) = if s.standing == 0 then Some closed_stance else None
row s _ e = None

-- The stance after a caller's own entries, or None if one of them is not allowed.
abbrev pub stance_after : List Entry → Option Stance
stance_after es = fold (λ stance e. option_and_then (λ s. row s s.phase e) stance) (Some closed_stance) es

-- The entries of one caller, in order.
abbrev pub own : ℕ → List Entry → List Entry
own c h = filter (λ e. caller_of e == c) h

-- How many entries pass a test.
abbrev pub how_many : (Entry → Bool) → List Entry → ℕ
how_many test h = length (filter test h)

-- True if an entry that follows the history `g` has the right number. Transactions and commits are
-- numbered from 1. Other entries need no number.
abbrev pub is_numbered : List Entry → Entry → Bool
is_numbered g (Began c t) = t == how_many is_began g + 1
is_numbered g (Committed c p) = p == how_many is_commit g + 1
is_numbered g _ = true

-- True if the rule of shape allows an entry after the history `g`, and the entry's number is right.
abbrev pub is_shaped : List Entry → Entry → Bool
is_shaped g e = is_some (stance_after (own (caller_of e) (g ++ e ∷ []))) && is_numbered g e

-- Each entry of the history has the right shape after the entries before it.
abbrev pub IsShaped : List Entry → Type 0
IsShaped h = (g : List Entry) (e : Entry) → IsPrefix (g ++ e ∷ []) h → IsTrue (is_shaped g e)
