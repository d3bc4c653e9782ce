-- PROMISES what-became-of-each-script: AreOutcomes
-- The outcome of each script in a history.
use Rattle.std.specs.Prelude.{◌≡◌, ℕ, ◌+◌, ◌%◌, ◌<◌, ◌≤◌, ◌==◌, Bool, Option, Some, List, [], ◌∷◌, ◌++◌, length, take, slice_get, if◌then◌else◌}
use Prim.Native.Nat.{suc}
use Rattle.std.specs.List.{fold}
use Rattle.txn_words.specs.declared.action.Action.{Action}
use Rattle.txn_words.specs.declared.entry.Entry.{Entry}
use Rattle.txn_words.specs.declared.entry.Entry.TheVariants as entries
use Rattle.txn_words.specs.Kinds.{caller_of, is_began, is_commit}
use Rattle.txn_words.specs.Shape.{own}
use Rattle.txn_trace.specs.Plays.{is_undone, IsPlayed, IsScriptOf}
use Rattle.script_worker.specs.declared.outcome.Outcome.{Outcome}
use Rattle.script_worker.specs.declared.outcome.Outcome.TheVariants.{Committed, Aborted, GivenUp}
use Rattle.script_worker.specs.Matches.{AbortsItself}

-- The entries of a caller's transaction after one more entry of the caller. A Began starts a new
-- transaction, and an entry that takes a change back is left out.
abbrev pub grown : List Entry → Entry → List Entry
grown part e = if is_began e then e ∷ [] else if is_undone e then part else part ++ e ∷ []

-- A caller's entries from its last Began on, without those that take changes back.
abbrev pub latest_entries : ℕ → List Entry → List Entry
latest_entries c h = fold grown [] (own c h)

-- The entry with this index is a `Committed` entry of the caller, with the commit number `place`.
-- The transaction that this entry commits plays the script.
pub record CommitsScript (c : ℕ) (script : List Action) (place entry : ℕ) (h : List Entry) :
    Type 0 where
  pub at : slice_get h entry ≡ Some (entries.Committed c place)
  pub plays : IsPlayed script (latest_entries c (take (entry + 1) h))

-- The entry with this index ends a transaction of the caller. This transaction did the script's
-- actions up to the script's own abort, and no more.
pub record AbortsScript (c : ℕ) (script : List Action) (entry : ℕ) (h : List Entry) : Type 0 where
  pub at : slice_get h entry ≡ Some (entries.Aborted c)
  pub did : AbortsItself script (latest_entries c (take (entry + 1) h))

-- The script's outcome fits the history, as `CommitsScript` or `AbortsScript` says. The outcome
-- `GivenUp` fits every history.
abbrev pub HasCome : ℕ → List Action → List Entry → Outcome → Type 0
HasCome c script h (Committed place entry) = CommitsScript c script place entry h
HasCome c script h (Aborted entry) = AbortsScript c script entry h
HasCome c script h GivenUp = Unit {0}

-- The outcomes are those of an earlier and of a later script. If both are commits, or both are
-- aborts, the entry of the earlier script's outcome comes first.
abbrev pub AreInOrder : Outcome → Outcome → Type 0
AreInOrder (Committed place entry) (Committed later_place later) = entry < later
AreInOrder (Aborted entry) (Aborted later) = entry < later
AreInOrder outcome other = Unit {0}

-- The caller's transactions that commit in a history, each as the list of its entries. `part` has
-- those entries of the caller's transaction that come before the history.
abbrev pub committed_from : ℕ → List Entry → List Entry → List (List Entry)
committed_from c part [] = []
committed_from c part (e ∷ h) =
    if caller_of e == c
    then (if is_commit e
    then grown part e ∷ committed_from c (grown part e) h
    else committed_from c (grown part e) h)
    else committed_from c part h

-- The caller's transactions that commit, in order.
abbrev pub committed_by : ℕ → List Entry → List (List Entry)
committed_by c h = committed_from c [] h

-- Each of these transactions plays one of the caller's scripts. The numbers of these scripts rise,
-- and each number is at least `low`.
abbrev pub PlayInOrder : ℕ → List (List Action) → ℕ → ℕ → List (List Entry) → Type 0
PlayInOrder callers scripts c low [] = Unit {0}
PlayInOrder callers scripts c low (part ∷ parts) =
    (n : ℕ) × (script : List Action) × (low ≤ n) × IsScriptOf callers scripts c n script
    × IsPlayed script part × PlayInOrder callers scripts c (suc n) parts

-- Each Committed entry of the caller among the first `fed` entries is counted: the outcome of one
-- of the caller's scripts is `Committed`, with the commit number and the index of this entry.
abbrev pub CommitsCounted : ℕ → ℕ → ℕ → List Entry → List Outcome → Type 0
CommitsCounted callers c fed h outcomes =
    (entry place : ℕ) → entry < fed → slice_get h entry ≡ Some (entries.Committed c place)
    → (n : ℕ) × (n % callers ≡ c) × (slice_get outcomes n ≡ Some (Committed place entry))

-- The outcomes of a caller's scripts in a history. `HasCome` holds for each outcome. Commits are in
-- the order of the scripts, and so are aborts. So each transaction is counted for at most one
-- script. If the caller's committed transactions play its scripts in order, each of these
-- transactions is counted.
pub record AreOutcomesOf (callers : ℕ) (scripts : List (List Action)) (h : List Entry)
    (outcomes : List Outcome) (c : ℕ) : Type 0 where
  pub each : (n : ℕ) (script : List Action) (outcome : Outcome)
      → IsScriptOf callers scripts c n script → slice_get outcomes n ≡ Some outcome
      → HasCome c script h outcome
  pub ordered : (n m : ℕ) (script other : List Action) (outcome later : Outcome) → n < m
      → IsScriptOf callers scripts c n script → IsScriptOf callers scripts c m other
      → slice_get outcomes n ≡ Some outcome → slice_get outcomes m ≡ Some later
      → AreInOrder outcome later
  pub all : PlayInOrder callers scripts c 0 (committed_by c h)
      → CommitsCounted callers c (length h) h outcomes

-- The outcomes of all scripts in a history. Caller `c` has the scripts whose number is `c` modulo
-- `callers`.
pub record AreOutcomes (callers : ℕ) (scripts : List (List Action)) (h : List Entry)
    (outcomes : List Outcome) : Type 0 where
  pub one_each : length outcomes ≡ length scripts
  pub of : (c : ℕ) → c < callers → AreOutcomesOf callers scripts h outcomes c
