-- PROMISES what-leads-to-a-bad-entry: reason_lines
-- The lines that explain a bad entry.
use Rattle.std.specs.Prelude.{ℕ, ◌+◌, ◌==◌, ◌&&◌, Bool, false, List, [], ◌∷◌, ◌++◌, length, slice_get, nat_eq, nat_le, Option, Some, None, if◌then◌else◌, codes, decimal}
use Rattle.std.specs.Option.{option_eq}
use Rattle.txn_words.specs.declared.entry.Entry.{Entry}
use Rattle.txn_words.specs.declared.entry.Entry.TheVariants.{Asked, Busy, Did, Undone}
use Rattle.txn_words.specs.declared.holder.Holder.{Holder}
use Rattle.txn_words.specs.declared.holder.Holder.TheVariants.{Now, Begun}
use Rattle.txn_words.specs.declared.stance.Phase.{Phase}
use Rattle.txn_words.specs.declared.stance.Phase.TheVariants.{Closed, Opened, Waiting, LeavingTo, LeavingToEnd}
use Rattle.txn_words.specs.Kinds.{caller_of}
use Rattle.txn_words.specs.Map.{key_of}
use Rattle.txn_words.specs.Shape.{Stance, own, stance_after}
use Rattle.txn_trace.specs.Log.{log_of}
use Rattle.txn_files.specs.EntryLines.{line_of}
use Rattle.bad_entry.specs.declared.change.Change.{Change}
use Rattle.bad_entry.specs.declared.change.Fate.{Fate}
use Rattle.bad_entry.specs.declared.change.Fate.TheVariants as fates
use Rattle.bad_entry.specs.declared.held.Held.{Held}
use Rattle.bad_entry.specs.declared.reason.Reason.{Reason}
use Rattle.bad_entry.specs.declared.reason.Reason.TheVariants as reasons
use Rattle.bad_entry.specs.Changes.{last_with_fate}
use Rattle.bad_entry.specs.Commits.{last_commit}
use Rattle.bad_entry.specs.Desks.{txn_in}
use Rattle.judge_engine.specs.declared.basis.Basis.{Basis}
use Rattle.judge_engine.specs.declared.basis.Basis.TheVariants.{Locks}

-- ---- words within a line

-- A value, or the word `none` if there is no value.
abbrev pub value_words : Option ℕ → List ℕ
value_words None = codes "none"
value_words (Some value) = decimal value

-- A transaction and its caller, or the caller alone if there is no transaction.
abbrev pub transaction_words : Option ℕ → ℕ → List ℕ
transaction_words None c = codes "caller " ++ decimal c
transaction_words (Some t) c =
    codes "transaction " ++ (decimal t ++ (codes " of caller " ++ decimal c))

-- The fate of a change.
abbrev pub fate_words : Fate → List ℕ
fate_words fates.Open = codes "open"
fate_words fates.Committed = codes "committed"
fate_words fates.Undone = codes "undone"

-- ---- entries, each in a line with its index in front

abbrev pub entry_line : ℕ → Entry → List ℕ
entry_line i e = codes "  " ++ (decimal i ++ (codes " " ++ line_of e))

-- The line of an entry, if it is chosen.
abbrev pub line_if : Bool → ℕ → Entry → List ℕ
line_if is_chosen i e = if is_chosen then entry_line i e else []

-- The lines of those entries of `h` that pass a test. The entries `g` precede `h`. The test is
-- given an entry and all entries before it.
abbrev pub lines_from : (List Entry → Entry → Bool) → List Entry → List Entry → List ℕ
lines_from test g [] = []
lines_from test g (e ∷ h) = line_if (test g e) (length g) e ++ lines_from test (g ++ e ∷ []) h

-- The lines of those entries of a history that pass a test.
abbrev pub lines_where : (List Entry → Entry → Bool) → List Entry → List ℕ
lines_where test h = lines_from test [] h

-- ---- the entries on a key

-- Whether a caller in this phase waits for an operation on the key.
abbrev pub is_waiting_on : ℕ → Phase → Bool
is_waiting_on k (Waiting op) = key_of op == k
is_waiting_on k phase = false

abbrev pub stance_is_on : ℕ → Option Stance → Bool
stance_is_on k None = false
stance_is_on k (Some stance) = is_waiting_on k stance.phase

-- Whether a change, given by its key and the value before it, is a change of the key.
abbrev pub is_of_key : ℕ → Option (ℕ × Option ℕ) → Bool
is_of_key k None = false
is_of_key k (Some change) = change.0 == k

-- Whether the entry that follows `g` asks for an operation on the key, answers such a request, or
-- takes back a change of the key.
abbrev pub is_on : ℕ → List Entry → Entry → Bool
is_on k g (Asked c op) = key_of op == k
is_on k g (Busy c op x) = key_of op == k
is_on k g (Did c r) = stance_is_on k (stance_after (own c g))
is_on k g (Undone c) = is_of_key k (slice_get (log_of c g) 0)
is_on k g e = false

-- The entries on the key, from the entry with the index `first`.
abbrev pub lines_on : ℕ → ℕ → List Entry → List ℕ
lines_on k first h = lines_where (λ g e. nat_le first (length g) && is_on k g e) h

-- Which entries on the key follow: those since the last commit that changed the key's value. The
-- commit is given by its index and its caller.
abbrev pub since_line : ℕ → Option (ℕ × ℕ) → List ℕ
since_line k None =
    codes "entries on key "
    ++ (decimal k ++ (codes ", whose value no commit has changed:" ++ 10 ∷ []))
since_line k (Some commit) =
    codes "entries on key "
    ++ (decimal k ++ (codes " since entry "
    ++ (decimal commit.0 ++ (codes ", where caller "
    ++ (decimal commit.1 ++ (codes " committed its value:" ++ 10 ∷ []))))))

-- The index of the commit, or 0.
abbrev pub first_since : Option (ℕ × ℕ) → ℕ
first_since None = 0
first_since (Some commit) = commit.0

-- The entries on the key since its last commit.
abbrev pub since_lines : ℕ → Option (ℕ × ℕ) → List Entry → List ℕ
since_lines k commit h = since_line k commit ++ lines_on k (first_since commit) h

-- ---- the entries of a transaction

-- Whether the entry that follows `g` is of this caller, in this transaction.
abbrev pub is_of : ℕ → Option ℕ → List Entry → Entry → Bool
is_of c txn g e = (caller_of e == c) && option_eq nat_eq (txn_in (g ++ e ∷ []) c) txn

-- The entries of a caller's transaction.
abbrev pub transaction_lines : ℕ → List Entry → List ℕ
transaction_lines c h =
    (codes "entries of " ++ (transaction_words (txn_in h c) c ++ (codes ":" ++ 10 ∷ [])))
    ++ lines_where (is_of c (txn_in h c)) h

-- ---- a wrong reply

-- Who changed a key last, and the fate of this change.
abbrev pub last_line : ℕ → Option (Change × Fate) → List ℕ
last_line k None = codes "key " ++ (decimal k ++ (codes " was never changed" ++ 10 ∷ []))
last_line k (Some last) =
    codes "key "
    ++ (decimal k ++ (codes " was last changed at entry "
    ++ (decimal last.0.did ++ (codes " by "
    ++ (transaction_words last.0.txn last.0.caller ++ (codes ": "
    ++ (fate_words last.1 ++ 10 ∷ [])))))))

abbrev pub due_line : Option ℕ → List ℕ
due_line due = codes "the reply that was due: " ++ (value_words due ++ 10 ∷ [])

-- A reply to the caller `c` is wrong: the reply that was due, who changed the key last, and the
-- entries on the key and of the transaction.
abbrev pub reply_lines : List Entry → ℕ → ℕ → Option ℕ → Option (Change × Fate) → List ℕ
reply_lines h c k due last =
    due_line due ++ (last_line k last ++ (since_lines k (last_commit k h) h ++ transaction_lines c h))

abbrev pub misread_line : ℕ → Option ℕ → Option ℕ → List ℕ
misread_line k read due =
    codes "the first reply at key "
    ++ (decimal k ++ (codes " was "
    ++ (value_words read ++ (codes "; the reply that was due: "
    ++ (value_words due ++ 10 ∷ [])))))

-- The committing transaction of the caller `c` misread a key: its first reply there, the reply that
-- was due, who changed the key last, and the entries on the key and of the transaction.
abbrev pub misread_lines : List Entry → ℕ → ℕ → Option ℕ → Option ℕ → Option (ℕ × ℕ) → List ℕ
misread_lines h c k read due commit =
    misread_line k read due
    ++ (last_line k (last_with_fate k h) ++ (since_lines k commit h ++ transaction_lines c h))

-- The entry at this index, if there is one, as the first reply that contradicts those before it.
abbrev pub contradiction_lines : ℕ → Option Entry → List ℕ
contradiction_lines i None = []
contradiction_lines i (Some e) =
    (codes "the first reply that contradicts those before it:" ++ 10 ∷ []) ++ entry_line i e

abbrev pub since_torn : List Entry → Option ℕ → List ℕ
since_torn h None = []
since_torn h (Some i) = contradiction_lines i (slice_get h i)

abbrev pub no_map_line : List ℕ
no_map_line = codes "no map gives the transaction all of its replies" ++ 10 ∷ []

-- The replies of the caller's transaction contradict one another: the first reply that contradicts
-- those before it, and the entries of the transaction.
abbrev pub torn_lines : List Entry → ℕ → Option ℕ → List ℕ
torn_lines h c since = no_map_line ++ (since_torn h since ++ transaction_lines c h)

-- ---- a lock

-- Who holds a lock, and since which entry.
abbrev pub holder_line : ℕ → Option Held → List ℕ
holder_line s None = codes "lock " ++ (decimal s ++ (codes " is free" ++ 10 ∷ []))
holder_line s (Some held) =
    codes "lock "
    ++ (decimal s ++ (codes " is held by "
    ++ (transaction_words held.txn held.caller ++ (codes " since entry "
    ++ (value_words held.since ++ 10 ∷ [])))))

-- What is wrong with another caller that a Busy names.
abbrev pub not_named_line : Holder → ℕ → List ℕ
not_named_line Now x = codes "busy must name the holder, and not caller " ++ (decimal x ++ 10 ∷ [])
not_named_line Begun x =
    codes "caller " ++ (decimal x ++ (codes " has begun no transaction" ++ 10 ∷ []))

-- What is wrong with the caller `x` that a Busy of the caller `c` names.
abbrev pub misnamed_line : Holder → ℕ → ℕ → List ℕ
misnamed_line holder c x =
    if x == c then codes "busy must name another caller" ++ 10 ∷ [] else not_named_line holder x

-- What is wrong with the caller that the entry names, if the entry is a Busy.
abbrev pub named_line : Basis → Entry → List ℕ
named_line (Locks stripes holder) (Busy c op x) = misnamed_line holder c x
named_line basis e = []

-- ---- a wrong shape

-- The next entry of a caller that ends its transaction, given its newest change.
abbrev pub ending_words : ℕ → Option (ℕ × Option ℕ) → List ℕ
ending_words c None = codes "[\"aborted\"," ++ (decimal c ++ codes "]")
ending_words c (Some change) = codes "[\"undone\"," ++ (decimal c ++ codes "]")

-- The entries that the caller may add in this phase, if so many transactions began and committed.
abbrev pub allowed_words : ℕ → Phase → Option (ℕ × Option ℕ) → ℕ → ℕ → List ℕ
allowed_words c Closed newest began committed =
    codes "[\"began\"," ++ (decimal c ++ (codes "," ++ (decimal (began + 1) ++ codes "]")))
allowed_words c Opened newest began committed =
    codes "asked, busy, saved, leave or [\"committed\","
    ++ (decimal c ++ (codes "," ++ (decimal (committed + 1) ++ codes "]")))
allowed_words c (Waiting op) newest began committed =
    codes "did or [\"leave\"," ++ (decimal c ++ codes ",null]")
allowed_words c (LeavingTo level) newest began committed =
    codes "undone for each change above level "
    ++ (decimal level ++ (codes ", then [\"returned\","
    ++ (decimal c ++ (codes "," ++ (decimal level ++ codes "]")))))
allowed_words c LeavingToEnd newest began committed = ending_words c newest

-- ---- the whole explanation

-- The lines of a reason why the entry `e` is bad after the entries `h`.
abbrev pub reason_lines : Basis → List Entry → Entry → Reason → List ℕ
reason_lines basis h e (reasons.Reply op due last) =
    reply_lines h (caller_of e) (key_of op) due last
reason_lines basis h e (reasons.Misread k read due commit) =
    misread_lines h (caller_of e) k read due commit
reason_lines basis h e (reasons.Torn since) = torn_lines h (caller_of e) since
reason_lines basis h e (reasons.Lock stripe held) = holder_line stripe held ++ named_line basis e
reason_lines basis h e (reasons.Shape phase newest began committed) =
    (codes "what may stand there: "
    ++ (allowed_words (caller_of e) phase newest began committed ++ 10 ∷ []))
    ++ transaction_lines (caller_of e) h
reason_lines basis h e reasons.Nothing = []

abbrev pub heading : List ℕ
heading = codes "the entry:" ++ 10 ∷ []

-- The lines of the bad entry `e` after the entries `h`: the entry itself, and the lines of a reason.
abbrev pub bad_entry_lines : Basis → List Entry → Entry → Reason → List ℕ
bad_entry_lines basis h e reason =
    heading ++ (entry_line (length h) e ++ reason_lines basis h e reason)
