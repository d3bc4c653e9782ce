-- The log of a caller: those changes of its transaction that have not been taken back yet. An abort
-- takes all of them back.
use Rattle.std.specs.Prelude.{ℕ, Option, Some, None, List, [], ◌∷◌, drop, if◌then◌else◌}
use Rattle.std.specs.List.{fold}
use Rattle.txn_words.specs.declared.op.Op.{Op}
use Rattle.txn_words.specs.declared.entry.Entry.{Entry}
use Rattle.txn_words.specs.declared.entry.Entry.TheVariants.{Began, Asked, Did, Undone, Committed, Aborted}
use Rattle.txn_words.specs.Map.{Map, key_of, set_at}
use Rattle.txn_words.specs.Shape.{changes, own}

-- A log has the operation that waits for its reply, and the standing changes: those that are not
-- taken back, newest first. Each change is given by its key and the value before the change.
pub record Log : Type 0 where
  pub pending : Option Op
  pub standing : List (ℕ × Option ℕ)

-- The log of a caller without a transaction.
abbrev pub no_log : Log
no_log = record { pending = None; standing = [] }

-- The log after a `Did` entry. If the operation made a change, the log gets the operation's key and
-- its reply, which is the value before the change.
abbrev pub log_did : Log → Option Op → Option ℕ → Log
log_did log None r = log
log_did log (Some op) r = record {
  pending = None;
  standing = if changes op r then (key_of op, r) ∷ log.standing else log.standing;
}

-- The log after an entry. An `Undone` entry removes the newest change. When a transaction begins or
-- ends, the log becomes empty.
abbrev pub log_step : Log → Entry → Log
log_step log (Asked c op) = record log { pending = Some op }
log_step log (Did c r) = log_did log log.pending r
log_step log (Undone c) = record log { standing = drop 1 log.standing }
log_step log (Began c t) = no_log
log_step log (Committed c p) = no_log
log_step log (Aborted c) = no_log
log_step log _ = log

-- The log after a caller's own entries.
abbrev pub log_after : List Entry → Log
log_after es = fold log_step no_log es

-- The standing changes of a caller, newest first. Each is given by its key and the value before the
-- change.
abbrev pub log_of : ℕ → List Entry → List (ℕ × Option ℕ)
log_of c h = (log_after (own c h)).standing

-- The map after these changes are taken back, in the order of the list.
abbrev pub rolled_back : Map → List (ℕ × Option ℕ) → Map
rolled_back m [] = m
rolled_back m (change ∷ older) = rolled_back (set_at m change.0 change.1) older
