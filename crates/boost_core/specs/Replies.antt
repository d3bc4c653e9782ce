-- PROMISES each-transaction-as-if-alone: KeepsReplies
-- The third claim, replies: each transaction has the same replies as if it ran alone, after the
-- transactions that committed before it ended.
use Rattle.txn_trace.specs.Replies.{RepliesHold}
use Rattle.boost_core.specs.State.{State}

abbrev pub KeepsReplies : State → Type 0
KeepsReplies state = RepliesHold state.history
