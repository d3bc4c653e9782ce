-- PROMISES what-leads-to-a-bad-entry: IsReasonByLocks, IsReasonByCommits
-- The meaning of each reason of a verdict, in terms of the history before the bad entry.
use Rattle.std.specs.Prelude.{◌≡◌, ℕ, true, Option, Some, None, List, slice_get}
use Rattle.txn_words.specs.declared.op.Op.{Op}
use Rattle.txn_words.specs.declared.entry.Entry.{Entry}
use Rattle.txn_words.specs.declared.entry.Entry.TheVariants as entries
use Rattle.txn_trace.specs.History.{is_open}
use Rattle.txn_words.specs.Kinds.{caller_of, is_began, is_commit}
use Rattle.txn_trace.specs.Locks.{stripe_of}
use Rattle.txn_trace.specs.Log.{log_of}
use Rattle.txn_words.specs.Map.{key_of, reply_of}
use Rattle.txn_trace.specs.Now.{now}
use Rattle.txn_words.specs.Shape.{how_many}
use Rattle.history_check.specs.Callers.{IsIn}
use Rattle.history_check.specs.declared.verdict.Rule.{Rule}
use Rattle.history_check.specs.declared.verdict.Rule.TheVariants as rules
use Rattle.serial_check.specs.Commits.{FitsOrTorn, IsMisread}
use Rattle.bad_entry.specs.declared.reason.Reason.{Reason}
use Rattle.bad_entry.specs.declared.reason.Reason.TheVariants as reasons
use Rattle.bad_entry.specs.Changes.{last_with_fate}
use Rattle.bad_entry.specs.Commits.{IsTornSince, last_commit}
use Rattle.bad_entry.specs.Desks.{txn_in, waiting_in}
use Rattle.bad_entry.specs.Holding.{IsHeldSince}

-- `Reply`: the caller waits for the operation `op`, `due` is the reply that the present map gives
-- to `op`, and `last` is the last change of its key. `Nothing`: the caller waits for no operation.
abbrev pub IsReplyReason : List Entry → ℕ → Reason → Type 0
IsReplyReason h c (reasons.Reply op due last) =
    (waiting_in h c ≡ Some op) × (due ≡ reply_of (now h) op)
    × (last ≡ last_with_fate (key_of op) h)
IsReplyReason h c reasons.Nothing = waiting_in h c ≡ None
IsReplyReason h c _ = ⊥

-- The reason names the stripe of the operation's key, and the holder of this stripe.
abbrev pub IsLockReason : ℕ → Op → List Entry → Reason → Type 0
IsLockReason stripes op h (reasons.Lock stripe holder) =
    (stripe ≡ stripe_of stripes (key_of op)) × IsHeldSince stripes stripe h holder
IsLockReason stripes op h _ = ⊥

-- The caller is in the phase `phase`, and `newest` is its newest change that is not taken back.
-- `began` and `committed` are the numbers of transactions that began and that committed.
abbrev pub IsShapeReason : List Entry → ℕ → Reason → Type 0
IsShapeReason h c (reasons.Shape phase newest began committed) =
    IsIn h c phase × (newest ≡ slice_get (log_of c h) 0) × (began ≡ how_many is_began h)
    × (committed ≡ how_many is_commit h)
IsShapeReason h c _ = ⊥

-- This is the reason why the entry breaks the rule, if the history is judged by locks.
abbrev pub IsReasonByLocks : Rule → ℕ → List Entry → Entry → Reason → Type 0
IsReasonByLocks rules.Replies stripes h (entries.Did c r) reason = IsReplyReason h c reason
IsReasonByLocks rules.Replies stripes h e reason = Unit {0}
IsReasonByLocks rules.Locks stripes h (entries.Asked c op) reason = IsLockReason stripes op h reason
IsReasonByLocks rules.Locks stripes h (entries.Busy c op x) reason =
    IsLockReason stripes op h reason
IsReasonByLocks rules.Locks stripes h e reason = Unit {0}
IsReasonByLocks rules.Shape stripes h e reason = IsShapeReason h (caller_of e) reason

-- `Misread`: the caller's open transaction read a value that the committed map does not have, and
-- `commit` is the last commit that changed the key. `Torn`: there is no map on which the
-- transaction, run alone, gets all of its replies, or it gets all of them on the committed map. In
-- the second case its commit would be right. In both cases `since` is as `IsTornSince` says.
abbrev pub IsCommitReason : List Entry → ℕ → Reason → Type 0
IsCommitReason h c (reasons.Misread key read due commit) =
    ((t : ℕ) → txn_in h c ≡ Some t → is_open t h ≡ true
    → IsMisread h t (record { key = key; read = read; due = due }))
    × (commit ≡ last_commit key h)
IsCommitReason h c (reasons.Torn since) =
    ((t : ℕ) → txn_in h c ≡ Some t → is_open t h ≡ true → FitsOrTorn h t) × IsTornSince h c since
IsCommitReason h c _ = ⊥

-- This is the reason why the entry breaks the rule, if the history is judged by the order of
-- commits.
abbrev pub IsReasonByCommits : Rule → List Entry → Entry → Reason → Type 0
IsReasonByCommits rules.Replies h (entries.Committed c p) reason = IsCommitReason h c reason
IsReasonByCommits rules.Replies h e reason = Unit {0}
IsReasonByCommits rules.Locks h e reason = Unit {0}
IsReasonByCommits rules.Shape h e reason = IsShapeReason h (caller_of e) reason
