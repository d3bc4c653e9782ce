-- PROMISES transactions-as-values: Keeps, Lifts
-- Relations between a transaction before a call and after it.
use Rattle.std.specs.Prelude.{◌≡◌, ℕ}
use Rattle.boost_core.specs.State.{State}
use Rattle.owned_map.specs.declared.transaction.Transaction.{Transaction}
use Rattle.owned_map.specs.Within.{GoesOn}

-- `new` is the transaction `old` after some of its calls. The caller and the map are the same, and
-- the transaction has continued as `GoesOn` says. This holds for each call of a transaction, and
-- for a work that is made of such calls.
pub record Keeps (old new : Transaction) : Type 0 where
  pub same_map : new.map.ghost_name ≡ old.map.ghost_name
  pub same_caller : new.caller ≡ old.caller
  pub goes_on : GoesOn old.caller old.map.now.core new.map.now.core

-- A call of a transaction does to its map what a call with the number of its caller does (`Does`).
pub record Lifts {A : Type 0} (Does : ℕ → State → A → State → Type 0) (old : Transaction)
    (result : A) (new : Transaction) : Type 0 where
  pub keeps : Keeps old new
  pub does : Does old.caller old.map.now.core result new.map.now.core
