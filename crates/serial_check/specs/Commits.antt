-- What the committed map and the footprints of a checker say about the entries so far.
use Rattle.std.specs.Prelude.{◌≡◌, ◌≢◌, ◌⊎◌, ℕ, Bool, true, List, [], ◌∷◌, ◌++◌, None, Some, IsSome}
use Rattle.txn_words.specs.declared.entry.Entry.{Entry}
use Rattle.txn_trace.specs.Alone.{AloneRun, alone}
use Rattle.txn_trace.specs.History.{of}
use Rattle.txn_words.specs.Map.{Map, get}
use Rattle.txn_trace.specs.Serial.{serial}
use Rattle.txn_words.specs.Shape.{is_shaped}
use Rattle.history_check.specs.declared.callers.Callers.{Callers}
use Rattle.history_check.specs.Callers.{HaveEntered}
use Rattle.history_check.specs.Values.{Has}
use Rattle.serial_check.specs.declared.commits.Commits.{Commits}
use Rattle.serial_check.specs.declared.commits.Misread.{Misread}
use Rattle.serial_check.specs.Serializable.{commits_right}
use Rattle.serial_check.specs.OfCallers.{HaveFootprints}

-- The values are those of the map that the committed transactions leave, and each caller has the
-- footprint of its transaction.
pub record ShowsSerial (h : List Entry) (commits : Commits) : Type 0 where
  pub values : Has (serial h) commits.values
  pub footprints : HaveFootprints h commits.footprints

-- If `old` shows a history (`ShowsSerial`), `new` shows this history too.
abbrev pub Stays : Commits → Commits → Type 0
Stays old new = (h : List Entry) → ShowsSerial h old → ShowsSerial h new

-- `right` says whether the rule of replies lets the entry follow the history. The rule forbids only
-- an entry that commits a transaction with wrong replies. If `right` is true, `new` shows the
-- history with this entry added (`ShowsSerial`).
pub record JudgesAt (h : List Entry) (e : Entry) (right : Bool) (new : Commits) : Type 0 where
  pub right_is : commits_right h e ≡ right
  pub keeps : right ≡ true → ShowsSerial (h ++ e ∷ []) new

-- For each history `h` that meets these three conditions, the entry is judged as `JudgesAt` says:
-- - The entries `h` have been entered into the table `callers` (`HaveEntered`).
-- - `old` shows `h` (`ShowsSerial`).
-- - The entry has the right shape after `h`.
abbrev pub Judges : Entry → Callers → Commits → Bool → Commits → Type 0
Judges e callers old right new =
    (h : List Entry) → HaveEntered h callers → ShowsSerial h old → is_shaped h e ≡ true
    → JudgesAt h e right new

-- The transaction's replies require that the key had the value `read`, but the committed map has
-- another value there, `due`.
pub record IsMisread (h : List Entry) (t : ℕ) (miss : Misread) : Type 0 where
  pub read_is : (m : Map) (r : AloneRun) → alone m (of t h) ≡ Some r → get m miss.key ≡ miss.read
  pub due_is : get (serial h) miss.key ≡ miss.due
  pub differs : miss.read ≢ miss.due

-- The replies of a transaction contradict one another: there is no map on which the transaction,
-- run alone, gets all of them.
abbrev pub IsTorn : List Entry → ℕ → Type 0
IsTorn h t = (m : Map) → alone m (of t h) ≡ None

-- There is a map on which the transaction, run alone, gets all of its replies.
abbrev pub RunsSomewhere : List Entry → ℕ → Type 0
RunsSomewhere h t = (m : Map) × IsSome (alone m (of t h))

-- A transaction has the same replies as if it ran alone on the committed map, or there is no map on
-- which it would get all of its replies.
abbrev pub FitsOrTorn : List Entry → ℕ → Type 0
FitsOrTorn h t = IsSome (alone (serial h) (of t h)) ⊎ IsTorn h t
