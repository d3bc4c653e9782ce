-- The footprint of each caller's transaction.
use Rattle.std.specs.Prelude.{ℕ, ◌≡◌, true, false, Some, List, [], ◌∷◌, ◌++◌, slice_get}
use Rattle.std.specs.Option.{IfSome}
use Rattle.txn_words.specs.declared.entry.Entry.{Entry}
use Rattle.txn_words.specs.Kinds.{caller_of, is_commit, is_abort}
use Rattle.txn_words.specs.Shape.{stance_after, own, is_shaped, IsShaped}
use Rattle.txn_trace.specs.History.{is_open, of}
use Rattle.txn_trace.specs.Legal.{is_running}
use Rattle.txn_trace.specs.Log.{log_of}
use Rattle.history_check.specs.declared.callers.Callers.{Callers}
use Rattle.history_check.specs.Callers.{HaveEntered}
use Rattle.serial_check.specs.declared.footprint.Footprint.{Footprint}
use Rattle.serial_check.specs.declared.footprints.Footprints.{Footprints}
use Rattle.serial_check.specs.Serializable.{txn_in}
use Rattle.serial_check.specs.Footprints.{FootsIf}
use Rattle.serial_check.specs.Kept.{IsFresh, cell_of}
use mathlib.Core.Logic.{◌⊎◌}

-- If the caller has an open transaction, the footprint is that of this transaction.
abbrev pub IsOfTxn : List Entry → ℕ → Footprint → Type 0
IsOfTxn h c foot =
    (t : ℕ) → txn_in h c ≡ Some t → is_open t h ≡ true
    → FootsIf foot.is_torn (of t h) (cell_of foot) (log_of c h)

-- The footprint is that of the caller's open transaction. If the caller is in no transaction, the
-- footprint is empty.
pub record IsOfCaller (h : List Entry) (c : ℕ) (foot : Footprint) : Type 0 where
  pub idle : is_running (stance_after (own c h)) ≡ false → IsFresh foot
  pub of_txn : IsOfTxn h c foot

-- After these entries, each caller has the footprint of its transaction.
pub record HaveFootprints (h : List Entry) (footprints : Footprints) : Type 0 where
  pub each : (c : ℕ) → IfSome (slice_get footprints.table.items c) (IsOfCaller h c)

-- If `old` has the footprints after a history, `new` has the footprints after this history too.
abbrev pub StayFootprints : Footprints → Footprints → Type 0
StayFootprints old new = (h : List Entry) → HaveFootprints h old → HaveFootprints h new

-- If `old` has the footprints after a history, and the entry has the right shape there, `new` has
-- the footprints after the entry.
abbrev pub TakesIn : Entry → Callers → Footprints → Footprints → Type 0
TakesIn e callers old new =
    (h : List Entry) → HaveEntered h callers → HaveFootprints h old → is_shaped h e ≡ true
    → HaveFootprints (h ++ e ∷ []) new

-- The same for an entry that ends the caller's transaction.
abbrev pub Ends : ℕ → Footprints → Footprints → Type 0
Ends c old new =
    (h : List Entry) (e : Entry) → caller_of e ≡ c → (is_commit e ≡ true) ⊎ (is_abort e ≡ true)
    → IsShaped h → HaveFootprints h old → is_shaped h e ≡ true → HaveFootprints (h ++ e ∷ []) new
