-- PROMISES each-transaction-as-if-alone: KeepsLocks
-- The second claim, locks: a stripe of keys belongs to at most one open transaction at a time. The
-- answer Busy names the holder or, if stripes are words, another caller that has begun a
-- transaction.
use Rattle.txn_trace.specs.Locks.{LocksHold}
use Rattle.boost_core.specs.State.{State, holder_by}

abbrev pub KeepsLocks : State → Type 0
KeepsLocks state = LocksHold (holder_by state.words) state.limits.stripes state.history
