-- PROMISES the-striped-map: Keeps, Lifts
-- `Keeps` holds between a transaction before a call and the transaction after the call. It also
-- holds before and after a work that makes several such calls.
use Rattle.std.specs.Prelude.{◌≡◌}
use Rattle.striped_map.specs.declared.caller.Caller.{Caller}
use Rattle.striped_map.specs.declared.transaction.Transaction.{Transaction}
use Rattle.striped_map.specs.Callers.{IsWithin}

-- `old` and `new` are the same caller's transaction, before and after some of its calls.
pub record Keeps (old new : Transaction) : Type 0 where
  pub same_caller : new.me.ghost_name ≡ old.me.ghost_name
  pub goes_on : IsWithin old.me.now new.me.now

-- A transaction's call does what the call of its caller does (`Does`).
pub record Lifts {A : Type 0} (Does : Caller → A → Caller → Type 0) (old : Transaction)
    (result : A) (new : Transaction) : Type 0 where
  pub keeps : Keeps old new
  pub does : Does old.me.now result new.me.now
