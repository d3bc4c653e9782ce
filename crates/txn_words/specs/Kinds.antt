-- The caller and the kind of an entry.
use Rattle.std.specs.Prelude.{ℕ, Bool, true, false}
use Rattle.txn_words.specs.declared.entry.Entry.{Entry}
use Rattle.txn_words.specs.declared.entry.Entry.TheVariants.{Began, Asked, Did, Saved, Leave, Undone, Returned, Committed, Busy, Aborted}

-- The caller of an entry.
abbrev pub caller_of : Entry → ℕ
caller_of (Began c t) = c
caller_of (Asked c op) = c
caller_of (Did c r) = c
caller_of (Saved c) = c
caller_of (Leave c n) = c
caller_of (Undone c) = c
caller_of (Returned c n) = c
caller_of (Committed c p) = c
caller_of (Busy c op x) = c
caller_of (Aborted c) = c

-- Whether an entry is a Began.
abbrev pub is_began : Entry → Bool
is_began (Began c t) = true
is_began _ = false

-- Whether an entry is a Committed.
abbrev pub is_commit : Entry → Bool
is_commit (Committed c p) = true
is_commit _ = false

-- Whether an entry is an Aborted.
abbrev pub is_abort : Entry → Bool
is_abort (Aborted c) = true
is_abort _ = false
