-- The progress of a worker through its scripts.
use Rattle.std.specs.Prelude.{◌≡◌, ◌⊎◌, ℕ, ◌+◌, ◌%◌, ◌<◌, ◌≤◌, Bool, true, Some, None, List, [], ◌∷◌, length, slice_get, slice_set}
use Rattle.txn_words.specs.declared.action.Action.{Action}
use Rattle.txn_words.specs.declared.entry.Entry.{Entry}
use Rattle.txn_words.specs.declared.entry.Entry.TheVariants as entries
use Rattle.txn_words.specs.declared.entry.Entry.TheVariants.{Began, Leave}
use Rattle.txn_trace.specs.Plays.{IsPlayed}
use Rattle.script_worker.specs.declared.matching.Fit.{Fit}
use Rattle.script_worker.specs.declared.matching.Fit.TheVariants.{Itself, Refused, Other}
use Rattle.script_worker.specs.declared.outcome.Outcome.{Outcome}
use Rattle.script_worker.specs.declared.outcome.Outcome.TheVariants.{Committed, Aborted, GivenUp}
use Rattle.script_worker.specs.declared.way.Way.{Way}
use Rattle.script_worker.specs.Matches.{AbortsItself}
use Rattle.script_worker.specs.Outcomes.{grown}

-- The entries are a Began, followed by `rest`.
abbrev pub StartsWithBegan : List Entry → List Entry → Type 0
StartsWithBegan (Began c t ∷ es) rest = es ≡ rest
StartsWithBegan es rest = ⊥

-- The only entry is a Committed.
abbrev pub IsLoneCommit : List Entry → Type 0
IsLoneCommit (entries.Committed c p ∷ []) = Unit {0}
IsLoneCommit es = ⊥

-- The entries are those of an abort.
abbrev pub IsLeft : List Entry → Type 0
IsLeft (Leave c None ∷ entries.Aborted d ∷ []) = Unit {0}
IsLeft es = ⊥

-- If the result of a comparison is `Itself`, then `P` holds.
abbrev pub SaysItself : Fit → Type 0 → Type 0
SaysItself Itself P = P
SaysItself Refused P = Unit {0}
SaysItself Other P = Unit {0}

-- Of the numbers `low`, `low + workers` and so on, this number is the first whose script the
-- transaction plays. If the transaction plays none of these scripts, the number is past all
-- scripts.
pub record IsFirstPlayed (workers : ℕ) (scripts : List (List Action)) (part : List Entry)
    (low number : ℕ) : Type 0 where
  pub from : low ≤ number
  pub mine : number % workers ≡ low % workers
  pub passed : (n : ℕ) (script : List Action) → low ≤ n → n < number → n % workers ≡ low % workers
      → slice_get scripts n ≡ Some script → IsPlayed script part → ⊥
  pub plays : (script : List Action) → slice_get scripts number ≡ Some script
      → IsPlayed script part

-- The number is one of `low`, `low + workers` and so on. If `reached` is true, the transaction
-- reached the abort of the script with this number.
pub record IsFirstLeft (workers : ℕ) (scripts : List (List Action)) (part : List Entry)
    (low number : ℕ) (reached : Bool) : Type 0 where
  pub from : low ≤ number
  pub mine : number % workers ≡ low % workers
  pub reaches : (script : List Action) → reached ≡ true → slice_get scripts number ≡ Some script
      → AbortsItself script part

-- There is at least one worker, and an outcome for each script. The positions `next` and `turn`
-- have the same remainder modulo `workers`, and `next` is not after `turn`.
pub record MayCount (workers : ℕ) (scripts : List (List Action)) (way : Way)
    (outcomes : List Outcome) : Type 0 where
  pub some : 0 < workers
  pub one_each : length outcomes ≡ length scripts
  pub order : way.next ≤ way.turn
  pub mine : way.next % workers ≡ way.turn % workers

-- Neither `next` nor `turn` becomes smaller, and each keeps its remainder modulo `workers`.
-- Afterwards, `next` is at most `turn`.
pub record Advances (workers : ℕ) (old new : Way) : Type 0 where
  pub next : old.next ≤ new.next
  pub turn : old.turn ≤ new.turn
  pub order : new.next ≤ new.turn
  pub next_mine : new.next % workers ≡ old.next % workers
  pub turn_mine : new.turn % workers ≡ old.turn % workers

-- The transaction is counted for the script with this number: this script gets the outcome. The
-- worker continues at the position `low`, which is greater than this number.
pub record IsCountedFor (scripts : List (List Action)) (outcome : Outcome) (number low : ℕ)
    (outcomes outcomes' : List Outcome) : Type 0 where
  pub within : number < length scripts
  pub counted : outcomes' ≡ slice_set outcomes number outcome
  pub passed : number < low

-- The worker's scripts are tried in order, beginning at the position `next`. The commit is counted
-- for the first script that the transaction plays. If the transaction plays none of them, the
-- commit is not counted.
pub record CountsCommit (workers : ℕ) (scripts : List (List Action)) (place entry : ℕ)
    (old new : Way) (outcomes outcomes' : List Outcome) : Type 0 where
  pub part : new.part.items ≡ old.part.items
  pub on : Advances workers old new
  pub number : ℕ
  pub first : IsFirstPlayed workers scripts old.part.items old.next number
  pub counts : (IsCountedFor scripts (Committed place entry) number new.next outcomes outcomes'
      × (new.next ≡ number + workers))
      ⊎ ((length scripts ≤ number) × (outcomes' ≡ outcomes))

-- The abort is counted for one script or for none. If it is counted, the script is one of the
-- worker's, at the position `turn` or after it, and the transaction reached this script's own abort
-- (`AbortsItself`).
pub record CountsAbort (workers : ℕ) (scripts : List (List Action)) (entry : ℕ) (old new : Way)
    (outcomes outcomes' : List Outcome) : Type 0 where
  pub part : new.part.items ≡ old.part.items
  pub on : Advances workers old new
  pub next : new.next ≡ old.next
  pub number : ℕ
  pub from : old.turn ≤ number
  pub mine : number % workers ≡ old.turn % workers
  pub counts : (IsCountedFor scripts (Aborted entry) number new.turn outcomes outcomes'
      × ((script : List Action) → slice_get scripts number ≡ Some script
      → AbortsItself script old.part.items))
      ⊎ (outcomes' ≡ outcomes)

-- What the entry with this index does to the outcomes. After the entry, the transaction has the
-- entries `part`.
abbrev pub CountsAt : ℕ → List (List Action) → Entry → ℕ → List Entry → Way → Way
    → List Outcome → List Outcome → Type 0
CountsAt workers scripts (entries.Committed c place) entry part old new outcomes outcomes' =
    (number : ℕ) × IsFirstPlayed workers scripts part old.next number
    × ((IsCountedFor scripts (Committed place entry) number new.next outcomes outcomes'
    × (new.next ≡ number + workers))
    ⊎ ((length scripts ≤ number) × (outcomes' ≡ outcomes)))
CountsAt workers scripts (entries.Aborted c) entry part old new outcomes outcomes' =
    (new.next ≡ old.next)
    × (((number : ℕ) × (old.turn ≤ number) × (number % workers ≡ old.turn % workers)
    × IsCountedFor scripts (Aborted entry) number new.turn outcomes outcomes'
    × ((script : List Action) → slice_get scripts number ≡ Some script
    → AbortsItself script part))
    ⊎ (outcomes' ≡ outcomes))
CountsAt workers scripts e entry part old new outcomes outcomes' =
    (new.next ≡ old.next) × (outcomes' ≡ outcomes)

-- The worker has processed the entry `e`, which has this index.
pub record TakesEntry (workers : ℕ) (scripts : List (List Action)) (e : Entry) (entry : ℕ)
    (old new : Way) (outcomes outcomes' : List Outcome) : Type 0 where
  pub part : new.part.items ≡ grown old.part.items e
  pub on : Advances workers old new
  pub counts : CountsAt workers scripts e entry new.part.items old new outcomes outcomes'

-- One `Way` for each of `workers` workers, before the first entry.
pub record AreFresh (workers : ℕ) (ways : List Way) : Type 0 where
  pub size : length ways ≡ workers
  pub each : (c : ℕ) (way : Way) → slice_get ways c ≡ Some way
      → (way.part.items ≡ []) × (way.next ≡ c) × (way.turn ≡ c)

-- One outcome for each of `scripts` scripts, each of them `GivenUp`.
pub record AreNone (scripts : ℕ) (outcomes : List Outcome) : Type 0 where
  pub size : length outcomes ≡ scripts
  pub each : (n : ℕ) (outcome : Outcome) → slice_get outcomes n ≡ Some outcome → outcome ≡ GivenUp
