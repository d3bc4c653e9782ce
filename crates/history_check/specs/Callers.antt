-- PROMISES a-verdict-by-the-order-of-commits-is-right: HaveEntered
-- The meaning of a caller of the checker, and of the table of all callers.
use Rattle.std.specs.Prelude.{◌≡◌, ◌||◌, ℕ, ◌<◌, true, Option, Some, None, List, reverse, slice_get, vec_len, vec_capacity}
use Rattle.std.specs.List.{All}
use Rattle.std.specs.Option.{IfSome}
use Rattle.txn_words.specs.declared.entry.Entry.{Entry}
use Rattle.txn_words.specs.declared.stance.Phase.{Phase}
use Rattle.txn_words.specs.declared.stance.Phase.TheVariants.{LeavingTo, LeavingToEnd}
use Rattle.txn_words.specs.Kinds.{caller_of, is_began, is_commit}
use Rattle.txn_trace.specs.Locks.{has_begun}
use Rattle.txn_trace.specs.Log.{log_of}
use Rattle.txn_words.specs.Stances.{is_saved}
use Rattle.txn_words.specs.Shape.{Stance, row, stance_after, own, how_many, IsShaped}
use Rattle.history_check.specs.declared.caller.Caller.{Caller}
use Rattle.history_check.specs.declared.callers.Callers.{Callers}
use Rattle.history_check.specs.Logs.{is_did, log_entered}

-- The phase of a caller that is going back to this level. If no level is given, the caller takes
-- back all its changes and ends its transaction.
abbrev pub goal_of : Option ℕ → Phase
goal_of None = LeavingToEnd
goal_of (Some level) = LeavingTo level

-- The stance of a caller.
abbrev pub stance_of : Caller → Stance
stance_of caller = caller.stance.stance

-- The standing changes of a caller, newest first.
abbrev pub log_in : Caller → List (ℕ × Option ℕ)
log_in caller = reverse caller.changes.items

-- `new` is the caller `old` after the entry: the stance and the changes of `new` follow from those of
-- `old`. `new` has begun a transaction if `old` had, or if the entry begins one.
pub record Enters (e : Entry) (old new : Caller) : Type 0 where
  pub stance : row (stance_of old) (stance_of old).phase e ≡ Some (stance_of new)
  pub log : log_in new ≡ log_entered (stance_of old).phase (log_in old) e
  pub begun : new.has_begun ≡ (old.has_begun || is_began e)

-- There is room for the change that a Did entry may add, and for the savepoint that a Saved entry
-- adds.
pub record HasRoom (e : Entry) (caller : Caller) : Type 0 where
  pub change : is_did e ≡ true → vec_len caller.changes < vec_capacity caller.changes
  pub level : is_saved e ≡ true → 0 < caller.stance.room

-- The caller has the stance and the log that follow from its entries, and its `has_begun` says
-- whether it has begun a transaction.
pub record Sits (h : List Entry) (c : ℕ) (caller : Caller) : Type 0 where
  pub stance : stance_after (own c h) ≡ Some (stance_of caller)
  pub log : log_of c h ≡ log_in caller
  pub begun : has_begun c h ≡ caller.has_begun

-- The entries `h` have the right shape, and were entered in the table `callers`. Each caller has
-- the stance and the log that follow from its own entries. `began` and `committed` are the numbers of
-- all Began and Committed entries.
pub record HaveEntered (h : List Entry) (callers : Callers) : Type 0 where
  pub shape : IsShaped h
  pub below : All (λ e. caller_of e < 64) h
  pub begins : callers.began ≡ how_many is_began h
  pub commits : callers.committed ≡ how_many is_commit h
  pub stances : (c : ℕ) → IfSome (slice_get callers.table.items c) (Sits h c)

-- The caller of an entry has room for what the entry adds.
abbrev pub HasRoomFor : Entry → Callers → Type 0
HasRoomFor e callers = IfSome (slice_get callers.table.items (caller_of e)) (HasRoom e)

-- After the history, the caller is in this phase.
pub record IsIn (h : List Entry) (c : ℕ) (phase : Phase) : Type 0 where
  pub stance : Stance
  pub stance_is : stance_after (own c h) ≡ Some stance
  pub phase_is : stance.phase ≡ phase
