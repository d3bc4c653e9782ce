-- The rule of replies.
use Rattle.std.specs.Prelude.{ℕ, IsSome, IsTrue, List}
use mathlib.Core.List.{IsPrefix}
use Rattle.txn_words.specs.declared.entry.Entry.{Entry}
use Rattle.txn_trace.specs.History.{is_open, of}
use Rattle.txn_trace.specs.Alone.{alone}
use Rattle.txn_trace.specs.Serial.{serial}

-- Each open transaction has the same replies as if it ran alone on the map that the committed
-- transactions leave.
abbrev pub RepliesHoldAt : List Entry → Type 0
RepliesHoldAt g = (t : ℕ) → IsTrue (is_open t g) → IsSome (alone (serial g) (of t g))

-- After each prefix of the history, each open transaction has the replies that it would have alone
-- (`RepliesHoldAt`).
abbrev pub RepliesHold : List Entry → Type 0
RepliesHold h = (g : List Entry) → IsPrefix g h → RepliesHoldAt g
