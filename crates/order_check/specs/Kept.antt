-- What is kept of the entries so far.
use Rattle.std.specs.Prelude.{ℕ, ◌≡◌, ◌<◌, Bool, true, Option, Some, None, List, [], ◌∷◌, ◌++◌, length, slice_index_or}
use Rattle.txn_words.specs.declared.entry.Entry.{Entry}
use Rattle.txn_words.specs.declared.entry.Entry.TheVariants.{Committed}
use Rattle.txn_words.specs.Shape.{is_shaped, IsShaped}
use Rattle.txn_trace.specs.History.{of, commits}
use Rattle.history_check.specs.declared.callers.Callers.{Callers}
use Rattle.history_check.specs.Callers.{HaveEntered}
use Rattle.serial_check.specs.Commits.{IsTorn}
use Rattle.serial_check.specs.OfCallers.{HaveFootprints}
use Rattle.serial_check.specs.Serializable.{txn_in}
use Rattle.order_check.specs.declared.access.Access.{Access}
use Rattle.order_check.specs.declared.transactions.Transactions.{Transactions}
use Rattle.order_check.specs.Footprints.{HasFootprint}
use Rattle.order_check.specs.Outcomes.{footprints_of}
use Rattle.order_check.specs.Serializable.{IsCommitted}
use Rattle.order_check.specs.Timing.{IsSince, since_in}

-- Each committed transaction has the footprint that the accesses give it. Or a committed
-- transaction is named that runs alone on no map.
abbrev pub HaveAccesses : List Entry → Option ℕ → List Access → Type 0
HaveAccesses h None accesses =
    (i : ℕ) → i < length (commits h)
    → HasFootprint (of (slice_index_or (commits h) i 0) h) (footprints_of accesses i)
HaveAccesses h (Some t) accesses = IsCommitted h t × IsTorn h t

-- What is kept is that of a history of these entries, with or without real time.
pub record Shows (real_time : Bool) (h : List Entry) (kept : Transactions) : Type 0 where
  pub footprints : HaveFootprints h kept.footprints
  pub newest : (c t : ℕ) → c < 64 → txn_in h c ≡ Some t → slice_index_or kept.newest.items c 0 ≡ t
  pub committed : kept.committed.items ≡ commits h
  pub accessed : HaveAccesses h kept.torn kept.accesses.items
  pub counts : kept.real_time ≡ real_time
  pub begun : (c t : ℕ) → c < 64 → txn_in h c ≡ Some t
      → IsSince real_time h t (slice_index_or kept.begun.items c 0)
  pub since : (i : ℕ) → i < length (commits h)
      → IsSince real_time h (slice_index_or (commits h) i 0) (since_in kept.since.items i)

-- If `old` is kept of a history, `new` is kept of this history too.
abbrev pub Stays : Transactions → Transactions → Type 0
Stays old new = (b : Bool) (h : List Entry) → Shows b h old → Shows b h new

-- If `old` is kept of a history, and the entry has the right shape there, `new` is kept of the
-- history with this entry.
abbrev pub TakesIn : Entry → Callers → Transactions → Transactions → Type 0
TakesIn e callers old new =
    (b : Bool) (h : List Entry) → HaveEntered h callers → Shows b h old → is_shaped h e ≡ true
    → Shows b (h ++ e ∷ []) new

-- The same for an entry that commits the caller's transaction.
abbrev pub Commits : ℕ → Transactions → Transactions → Type 0
Commits c old new =
    (b : Bool) (h : List Entry) (p : ℕ) → IsShaped h → Shows b h old
    → is_shaped h (Committed c p) ≡ true
    → Shows b (h ++ Committed c p ∷ []) new
