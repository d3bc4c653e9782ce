-- The entries that a checker was fed.
use Rattle.std.specs.Prelude.{ℕ, ◌≡◌, Bool, Option, Some, None, List, length}
use Rattle.txn_words.specs.declared.entry.Entry.{Entry}
use Rattle.history_check.specs.Callers.{HaveEntered}
use Rattle.order_check.specs.declared.checker.Checker.{Checker}
use Rattle.order_check.specs.Kept.{Shows}
use Rattle.order_check.specs.Reasons.{IsMisshapenAt}

-- The entries have the right shape, and the checker's state is the one after them.
pub record Tells (real_time : Bool) (h : List Entry) (checker : Checker) : Type 0 where
  pub entered : HaveEntered h checker.callers
  pub shows : Shows real_time h checker.transactions
  pub count : checker.fed ≡ length h

-- The same, or the first entry of the wrong shape is named.
abbrev pub FedTo : Bool → List Entry → Checker → Option ℕ → Type 0
FedTo real_time h checker None = Tells real_time h checker
FedTo real_time h checker (Some index) = IsMisshapenAt h index

-- The checker judges with or without real time, and was fed these entries, in this order.
abbrev pub IsFed : Bool → List Entry → Checker → Type 0
IsFed real_time h checker = FedTo real_time h checker checker.misshapen
