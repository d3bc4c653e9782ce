-- PROMISES transactions-as-values: IsRun, IsTakenBack, HasDone, IsGrown
-- What the calls of one caller's transaction do, if no other caller takes a step in between.
use Rattle.std.specs.Prelude.{ℕ, ◌+◌, ◌*◌, ◌-◌, ◌<◌, ◌≡◌, ◌≢◌, ◌⊎◌, true, List, [], ◌∷◌, ◌++◌, length, take, slice_index, Option, Some, nat_le, false, if◌then◌else◌}
use Rattle.std.specs.List.{filter}
use Rattle.txn_words.specs.declared.answer.Answer.{Answer}
use Rattle.txn_words.specs.declared.op.Op.{Op}
use Rattle.txn_words.specs.declared.step.Step.{Step}
use Rattle.txn_words.specs.declared.step.Step.TheVariants.{InitSeek, InitLink, InitStore, Double}
use Rattle.txn_words.specs.declared.holder.Holder.{Holder}
use Rattle.txn_words.specs.declared.entry.Entry.{Entry}
use Rattle.txn_words.specs.declared.entry.Entry.TheVariants.{Committed}
use Rattle.txn_words.specs.declared.stance.Phase.{Phase}
use Rattle.txn_words.specs.declared.stance.Phase.TheVariants.{Opened, LeavingToEnd}
use Rattle.txn_words.specs.Kinds.{is_commit}
use Rattle.txn_words.specs.Sizes.{Sizes}
use Rattle.txn_words.specs.Map.{Map, count_of, reply_of, after}
use Rattle.txn_trace.specs.Now.{now}
use Rattle.txn_trace.specs.Log.{log_of, rolled_back}
use Rattle.txn_words.specs.Stances.{is_closed}
use Rattle.txn_words.specs.Shape.{Stance, stance_after, own}
use Rattle.txn_trace.specs.Legal.{IsLegal}
use Rattle.boost_core.specs.State.{State, holder_by, stance_in}
use Rattle.boost_core.specs.Machine.{Moves}

-- A caller is in this phase. If the changes in the caller's log are taken back, the map is `base`.
pub record IsBasedOn (rule : Holder) (limits : Sizes) (c : ℕ) (base : Map) (phase : Phase)
    (h : List Entry) : Type 0 where
  pub within : nat_le limits.callers c ≡ false
  pub legal : IsLegal rule limits.stripes h
  pub stance : Stance
  pub stance_is : stance_after (own c h) ≡ Some stance
  pub phase_is : stance.phase ≡ phase
  pub back : rolled_back (now h) (log_of c h) ≡ base

abbrev pub IsAt : ℕ → Map → Phase → State → Type 0
IsAt c base phase state =
    IsBasedOn (holder_by state.words) state.limits c base phase state.history

-- A caller has a transaction that began on this map. The transaction can be aborted, or is being
-- aborted.
abbrev pub CanAbort : ℕ → Map → State → Type 0
CanAbort c base state = IsAt c base Opened state ⊎ IsAt c base LeavingToEnd state

-- The map at a level of a caller's transaction: the present map with the changes since that level
-- taken back, newest first. Level 0 is the beginning of the transaction. Every other level is a
-- savepoint's number.
abbrev pub map_at : ℕ → ℕ → List Entry → Map
map_at c level h =
    rolled_back (now h)
    (take ((stance_in h c).standing - slice_index (stance_in h c).kept level) (log_of c h))

-- The number of levels of a caller.
abbrev pub level_count : ℕ → List Entry → ℕ
level_count c h = length (stance_in h c).kept

-- A caller's levels below this number have the same maps as before.
abbrev pub KeepsLevels : ℕ → ℕ → State → State → Type 0
KeepsLevels levels c old new =
    (level : ℕ) → level < levels → map_at c level new.history ≡ map_at c level old.history

-- A caller has the same levels as before, each with the same map.
pub record KeepsSavepoints (c : ℕ) (old new : State) : Type 0 where
  pub levels : level_count c new.history ≡ level_count c old.history
  pub maps : KeepsLevels (level_count c old.history) c old new

-- A caller set a savepoint, which has this number and the present map. The savepoint is above all
-- levels that the caller had.
pub record IsSaved (c level : ℕ) (old new : State) : Type 0 where
  pub number : level ≡ level_count c old.history
  pub levels : level_count c new.history ≡ level + 1
  pub map : map_at c level new.history ≡ now old.history
  pub maps : KeepsLevels level c old new

-- A caller went back to a level. The map is the one of that level, and the level is now the
-- highest.
pub record IsBackAt (c level : ℕ) (old new : State) : Type 0 where
  pub map : now new.history ≡ map_at c level old.history
  pub levels : level_count c new.history ≡ level + 1
  pub maps : KeepsLevels (level + 1) c old new

-- A caller has no transaction.
abbrev pub IsIdle : ℕ → State → Type 0
IsIdle c state = is_closed (stance_in state.history c).phase ≡ true

-- Only this caller did anything: the entries of every other caller are unchanged.
abbrev pub OnlyDid : ℕ → State → State → Type 0
OnlyDid c old new = (d : ℕ) → d ≢ c → own d new.history ≡ own d old.history

-- The Committed entries of a history, in order.
abbrev pub commit_entries : List Entry → List Entry
commit_entries h = filter is_commit h

-- No other caller did anything, and nothing was committed.
pub record OnlyWorked (c : ℕ) (old new : State) : Type 0 where
  pub only : OnlyDid c old new
  pub commits : commit_entries new.history ≡ commit_entries old.history

-- A caller continued its transaction. If the transaction could be taken back to a map, it can still
-- be taken back to this map. No other caller did anything, and nothing was committed.
pub record GoesOn (c : ℕ) (old new : State) : Type 0 where
  pub back : (base : Map) → CanAbort c base old → CanAbort c base new
  pub beside : OnlyWorked c old new

-- An operation was done. The reply is the one that the operation has on the old map. The new map is
-- the one that the operation makes of the old map.
pub record HasDone (op : Op) (reply : Option ℕ) (old new : State) : Type 0 where
  pub replied : reply ≡ reply_of (now old.history) op
  pub changed : now new.history ≡ after (now old.history) op

-- A caller's transaction was taken back: the map is the one that the transaction began on. No other
-- caller did anything, and nothing was committed.
pub record IsTakenBack (c : ℕ) (old new : State) : Type 0 where
  pub back : (base : Map) → CanAbort c base old → (now new.history ≡ base) × IsIdle c new
  pub beside : OnlyWorked c old new

-- A caller's transaction was committed with this commit number: the map is unchanged, no other
-- caller did anything, and no other commit was made.
pub record IsCommitted (c place : ℕ) (old new : State) : Type 0 where
  pub same : now new.history ≡ now old.history
  pub idle : IsIdle c new
  pub only : OnlyDid c old new
  pub commits : commit_entries new.history ≡ commit_entries old.history ++ Committed c place ∷ []

-- The map is unchanged, nothing was committed, and no other caller did anything.
pub record IsSameMap (c : ℕ) (old new : State) : Type 0 where
  pub same : now new.history ≡ now old.history
  pub beside : OnlyWorked c old new

-- In the state `old`, a caller began a transaction, which led to the state `begun`. The work led
-- from `begun` to `done`. Then the transaction was committed. There is one more Committed entry,
-- which is the caller's, and the map is the one that the work made.
pub record IsRun (c : ℕ) (old begun done new : State) : Type 0 where
  pub began : now begun.history ≡ now old.history
  pub ended : now new.history ≡ now done.history
  pub place : ℕ
  pub commits : commit_entries new.history ≡ commit_entries old.history ++ Committed c place ∷ []

-- The steps by which a caller initialises a bucket.
abbrev pub initialising : ℕ → ℕ → List Step
initialising c bucket = InitSeek c bucket ∷ InitLink c ∷ InitStore c ∷ []

-- The steps by which a caller adds a bucket to a table of this size. If the bucket is not below the
-- size, the table is doubled first.
abbrev pub growing : ℕ → ℕ → ℕ → List Step
growing c size bucket =
    if nat_le size bucket then Double size ∷ initialising c bucket else initialising c bucket

-- A caller took the steps that add a bucket, each once, and no other step. The map has more than
-- two keys for each bucket below this one.
pub record Grows (c : ℕ) (old new : State) : Type 0 where
  pub bucket : ℕ
  pub wanted : 2 * bucket < count_of (now old.history)
  pub given : List Answer
  pub moves : Moves old (growing c old.size bucket) given new

-- A caller added at most one bucket to the table. If it added none, nothing changed.
abbrev pub IsGrown : ℕ → State → State → Type 0
IsGrown c old new = (new ≡ old) ⊎ Grows c old new
