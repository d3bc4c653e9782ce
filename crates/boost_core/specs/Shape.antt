-- PROMISES each-transaction-as-if-alone: HasShape
-- The first claim, shape: each entry is one that its caller's phase allows, and transactions and
-- commits are numbered in turn.
use Rattle.txn_words.specs.Shape.{IsShaped}
use Rattle.boost_core.specs.State.{State}

abbrev pub HasShape : State → Type 0
HasShape state = IsShaped state.history
