-- The work of a set of workers.
use Rattle.std.specs.Prelude.{ℕ, List}
use Rattle.txn_words.specs.Sizes.{Sizes}
use Rattle.txn_words.specs.declared.action.Action.{Action}

-- The version of the file that holds the work, the limits, how often a script is tried again, and
-- the scripts.
pub record Work : Type 0 where
  pub version : ℕ
  pub sizes : Sizes
  pub tries : ℕ
  pub scripts : List (List Action)
