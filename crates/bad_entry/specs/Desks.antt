-- The state of each caller: the operation that it waits for, and its transaction.
use Rattle.std.specs.Prelude.{◌≡◌, ℕ, Option, List, slice_get}
use Rattle.std.specs.Option.{IfSome}
use Rattle.txn_words.specs.declared.entry.Entry.{Entry}
use Rattle.txn_words.specs.declared.op.Op.{Op}
use Rattle.txn_trace.specs.Log.{log_after}
use Rattle.txn_words.specs.Shape.{own}
pub use Rattle.serial_check.specs.Serializable.{txn_in}
use Rattle.bad_entry.specs.declared.desks.Desk.{Desk}
use Rattle.bad_entry.specs.declared.desks.Desks.{Desks}

-- The operation whose reply a caller waits for.
abbrev pub waiting_in : List Entry → ℕ → Option Op
waiting_in h c = (log_after (own c h)).pending

-- The desk has the state that results from the caller's entries.
pub record IsDeskOf (h : List Entry) (c : ℕ) (desk : Desk) : Type 0 where
  pub waiting : desk.waiting ≡ waiting_in h c
  pub txn : desk.txn ≡ txn_in h c

-- Each desk has the state that results from the entries of the desk's caller.
pub record HaveNoted (h : List Entry) (desks : Desks) : Type 0 where
  pub each : (c : ℕ) → IfSome (slice_get desks.table.items c) (IsDeskOf h c)
