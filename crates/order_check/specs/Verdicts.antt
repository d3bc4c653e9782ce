-- PROMISES a-verdict-by-any-order-is-right: IsVerdictIf
-- What a verdict says of a history.
use Rattle.std.specs.Prelude.{◌≡◌, Bool, List}
use Rattle.txn_words.specs.declared.entry.Entry.{Entry}
use Rattle.txn_words.specs.Shape.{IsShaped}
use Rattle.txn_trace.specs.History.{commits}
use Rattle.serial_check.specs.Commits.{IsTorn}
use Rattle.order_check.specs.declared.verdict.Reason.{Reason}
use Rattle.order_check.specs.declared.verdict.Reason.TheVariants.{Shape, Torn, Unwritten, Impossible, Cycle}
use Rattle.order_check.specs.declared.verdict.Verdict.{Verdict}
use Rattle.order_check.specs.declared.verdict.Verdict.TheVariants.{Serializable, NotSerializable, Undecided}
use Rattle.order_check.specs.Graphs.{IsCycle}
use Rattle.order_check.specs.Reasons.{IsMisshapenAt, NeedsValue, IsUnwritten, IsForced, IsRepeated, AreWriters}
use Rattle.order_check.specs.RealTime.{IsSerialOrderIf, IsSerializableIf}
use Rattle.order_check.specs.Serializable.{IsCommitted}

-- What a reason says. Only where real time counts, it is a reason.
abbrev pub IsReason : Bool → List Entry → Reason → Type 0
IsReason real_time h (Shape entry) = IsMisshapenAt h entry
IsReason real_time h (Torn txn) = IsCommitted h txn × IsTorn h txn
IsReason real_time h (Unwritten txn key value) =
    IsCommitted h txn × NeedsValue h txn key value × IsUnwritten h key value
IsReason real_time h (Impossible txn key value) = IsCommitted h txn × NeedsValue h txn key value
IsReason real_time h (Cycle edges) = IsCycle (IsForced real_time h) edges.items

-- What a verdict says, with or without real time. If it names an order, the history has the right
-- shape, and this is a serial order of it, which keeps real time if this counts. If it names a
-- reason, there is this reason, and the history is not serializable, or not strictly if real time
-- counts. If it is undecided, it names all transactions that write the value.
abbrev pub IsVerdictIf : Bool → List Entry → Verdict → Type 0
IsVerdictIf real_time h (Serializable order) = IsShaped h × IsSerialOrderIf real_time h order.items
IsVerdictIf real_time h (NotSerializable reason) =
    IsReason real_time h reason × (IsSerializableIf real_time h → ⊥)
IsVerdictIf real_time h (Undecided key value writers) =
    IsRepeated h key value × AreWriters h key value writers.items

-- The verdict names the order of the commits.
abbrev pub IsOfCommits : List Entry → Verdict → Type 0
IsOfCommits h (Serializable order) = order.items ≡ commits h
IsOfCommits h _ = ⊥
