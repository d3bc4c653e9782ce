-- PROMISES scripts-that-take-turns: AreTrue
-- PROMISES scripts-on-threads: AreAllTrue, IsAccount
-- The outcomes of a caller's scripts: what each outcome says about the caller's own entries, and
-- what it says about the whole history.
use Rattle.std.specs.Prelude.{◌≡◌, ℕ, ◌+◌, ◌-◌, ◌*◌, ◌<◌, ◌≤◌, Bool, true, false, Option, Some, None, List, [], ◌∷◌, ◌++◌, length, slice_get}
use Prim.Native.Nat.{zero, suc}
use Rattle.std.specs.List.{filter, filter_map, AllByRecursion}
use Rattle.txn_words.specs.declared.action.Action.{Action}
use Rattle.txn_words.specs.declared.refusal.Refusal.{Refusal}
use Rattle.txn_words.specs.declared.entry.Entry.{Entry}
use Rattle.txn_words.specs.declared.entry.Entry.TheVariants as entries
use Rattle.txn_trace.specs.History.{of, is_committed, commits}
use Rattle.txn_words.specs.Kinds.{is_commit}
use Rattle.txn_words.specs.Shape.{own, how_many}
use Rattle.txn_trace.specs.Plays.{without_undone, IsPlayed, Plays, commits_of}
use Rattle.txn_drive.specs.Made.{CommitNothing}

-- The outcome of a script. `Committed` has the transaction, its commit number and its replies. With
-- any other outcome the script commits nothing.
pub data Outcome : Type 0 where
  Committed : ℕ → ℕ → List (Option ℕ) → Outcome
  Aborted : Outcome
  Busy : Outcome
  Refused : Refusal → Outcome

-- A script that a caller has run, and its outcome.
pub record Told : Type 0 where
  pub script : List Action
  pub outcome : Outcome

-- True if an entry is a Busy entry, which records that a stripe was held.
abbrev pub is_busy : Entry → Bool
is_busy (entries.Busy c op x) = true
is_busy _ = false

-- The reply of an entry, if it has one.
abbrev pub reply_in : Entry → Option (Option ℕ)
reply_in (entries.Did c reply) = Some reply
reply_in _ = None

-- The replies of the entries, in order.
abbrev pub replies_in : List Entry → List (Option ℕ)
replies_in es = filter_map reply_in es

-- The entries commit nothing, and at least `attempts` of them are Busy entries. `attempts` counts
-- the attempts that found a stripe held.
pub record AreBusy (attempts : ℕ) (es : List Entry) : Type 0 where
  pub nothing : CommitNothing es
  pub enough : attempts ≤ how_many is_busy es

-- The entries are those of one transaction of the caller, from its Began to its Committed. The
-- transaction plays the script and gets these replies.
pub record IsPlayedBy (c : ℕ) (script : List Action) (txn place : ℕ) (replies : List (Option ℕ))
    (es : List Entry) : Type 0 where
  pub inner : List Entry
  pub whole : es ≡ entries.Began c txn ∷ inner ++ entries.Committed c place ∷ []
  pub plays : IsPlayed script (without_undone es)
  pub replied : replies_in es ≡ replies

-- The entries that a caller has added while it ran a script with this outcome. If the script is
-- committed, the last entries are those of the committed transaction, and no earlier entry is a
-- commit. If the script is not committed, no entry is a commit. A Busy outcome also needs at least
-- `tries + 1` Busy entries.
abbrev pub IsAccount : ℕ → ℕ → List Action → Outcome → List Entry → Type 0
IsAccount c tries script (Committed txn place replies) es =
    (before : List Entry) × (part : List Entry) × (es ≡ before ++ part) × CommitNothing before
    × IsPlayedBy c script txn place replies part
IsAccount c tries script Aborted es = CommitNothing es
IsAccount c tries script Busy es = AreBusy (tries + 1) es
IsAccount c tries script (Refused refusal) es = CommitNothing es

-- The entries consist of one part for each of these scripts, in order. Each part is the account of
-- its script (`IsAccount`).
abbrev pub AreAccounts : ℕ → ℕ → List Told → List Entry → Type 0
AreAccounts c tries [] es = es ≡ []
AreAccounts c tries (told ∷ more) es =
    (here : List Entry) × (later : List Entry) × (es ≡ here ++ later)
    × IsAccount c tries told.script told.outcome here × AreAccounts c tries more later

-- In the history the transaction belongs to the caller, plays the script, is committed with this
-- number, and has these replies.
pub record IsCommittedAs (c : ℕ) (script : List Action) (txn place : ℕ)
    (replies : List (Option ℕ)) (h : List Entry) : Type 0 where
  pub inner : List Entry
  pub whole : of txn h ≡ entries.Began c txn ∷ inner ++ entries.Committed c place ∷ []
  pub plays : Plays txn script h
  pub committed : is_committed txn h ≡ true
  pub placed : slice_get (commits h) (place - 1) ≡ Some txn
  pub replied : replies_in (of txn h) ≡ replies

-- The outcome agrees with the history. A committed outcome must stand for a committed transaction
-- of the history, as `IsCommittedAs` says. Any other outcome agrees with every history.
abbrev pub HasCome : ℕ → List Entry → List Action → Outcome → Type 0
HasCome c h script (Committed txn place replies) = IsCommittedAs c script txn place replies h
HasCome c h script outcome = Unit {0}

-- The Committed entry of an outcome, or None if the outcome is not committed. `committed_txn` gives
-- the transaction in the same way.
abbrev pub commit_in : ℕ → Outcome → Option Entry
commit_in c (Committed txn place replies) = Some (entries.Committed c place)
commit_in c outcome = None

abbrev pub committed_txn : Outcome → Option ℕ
committed_txn (Committed txn place replies) = Some txn
committed_txn outcome = None

-- Whether a script found a stripe held in each of its attempts.
abbrev pub is_busy_outcome : Outcome → Bool
is_busy_outcome Busy = true
is_busy_outcome outcome = false

-- The outcomes of a caller's scripts agree with the history. Each committed outcome stands for a
-- committed transaction of the caller. The caller's Committed entries and its committed
-- transactions are exactly those of the committed outcomes, in the same order. The caller has at
-- least `tries + 1` Busy entries for each busy outcome.
pub record AreTrue (c tries : ℕ) (h : List Entry) (tolds : List Told) : Type 0 where
  pub each : AllByRecursion (λ told. HasCome c h told.script told.outcome) tolds
  pub entries_are : filter is_commit (own c h) ≡ filter_map (λ told. commit_in c told.outcome) tolds
  pub txns_are : commits_of c h ≡ filter_map (λ told. committed_txn told.outcome) tolds
  pub busy : length (filter (λ told. is_busy_outcome told.outcome) tolds) * (tries + 1)
      ≤ how_many is_busy (own c h)

-- Every `n`-th element of a list. The first of them is element `after`, counted from 0.
abbrev pub every : {X : Type 0} → ℕ → ℕ → List X → List X
every n after [] = []
every n zero (x ∷ xs) = x ∷ every n (n - 1) xs
every n (suc after) (x ∷ xs) = every n after xs

-- Pairs each script with the outcome at the same place. If one list is longer, the rest of it is
-- ignored.
abbrev pub tolds_of : List (List Action) → List Outcome → List Told
tolds_of (script ∷ scripts) (outcome ∷ outcomes) =
    record { script = script; outcome = outcome } ∷ tolds_of scripts outcomes
tolds_of scripts outcomes = []

-- The outcomes of all scripts agree with the history. Caller `c` runs every `callers`-th script,
-- beginning with script `c`, counted from 0.
abbrev pub AreAllTrue : ℕ → ℕ → List (List Action) → List Outcome → List Entry → Type 0
AreAllTrue callers tries scripts outcomes h = (c : ℕ) → c < callers
    → AreTrue c tries h (tolds_of (every callers c scripts) (every callers c outcomes))
