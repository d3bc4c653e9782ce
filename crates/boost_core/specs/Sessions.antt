-- A caller's side of the core, and the effects of the caller's steps on its side, on the table and
-- on the locks.
use Rattle.std.specs.Prelude.{◌≡◌, ℕ, ◌+◌, ◌<◌, ◌^◌, ◌≤◌, ◌⊎◌, ◌∷◌, is_some, ◌++◌, Bool, true, false, List, [], Option, Some, None, length, map, reverse, take, option_to_list}
use Rattle.boost_core.specs.Vocabulary.{may_change, Op, Answer, NoMemory, StaleWord, Map, get, key_of, set_at, owed_in, stripe_of, Phase, Waiting, LeavingTo, LeavingToEnd, Stance, closed_stance, is_leaving, has_job, has_target, refusal_in, Grants, Refuses, Releases, IsSound, MapJob, PendingAt, key_of_job, value_before, spare_of_job, IsDue, TableAt, Cursor, SpareAt, KeepsNodes, content, IsPlaced, fits, last_of, Does, OwnsIf, Places, SeeksNear, Prepares, IsRefused, GivesBack, TakesBack}
use Rattle.undo_log.specs.UndoLog.{LogAt, kept_at, newest_above}
use Rattle.map_ops.specs.Nodes.{OpWrites, JobWrites}
use Rattle.boost_core.specs.declared.counts.Counts.{Counts}
use Rattle.boost_core.specs.declared.session.Session.{Session}
use Rattle.boost_core.specs.Words.{Claim, Lock, Right, Held, Stale}
use Rattle.boost_core.specs.Refusals.{lacks_in}
use Rattle.boost_core.specs.Steps.{CallerStep, step_by}
use Rattle.boost_core.specs.Spares.{times_of, times_in, IsCoveredWith, StaysCovered}

-- A caller's side without its room: the stance, the operation that waits, the cursor, and the jobs
-- and savepoints of the log.
pub record Side : Type 0 where
  pub stance : Stance
  pub pending : Option PendingAt
  pub cursor : Option Cursor
  pub jobs : List MapJob
  pub kept : List ℕ

abbrev pub side_of : Session → Side
side_of s = record {
  stance = s.stance.stance;
  pending = s.pending;
  cursor = s.cursor;
  jobs = s.log.jobs;
  kept = s.log.kept;
}

-- The level down to which the caller takes changes back in this phase. It is 0 in every phase but
-- `LeavingTo`.
abbrev pub level_of : Phase → ℕ
level_of (LeavingTo level) = level
level_of phase = 0

-- How many entries the caller may still add without a new reservation.
abbrev pub owed_of : Session → ℕ
owed_of s = owed_in s.stance.stance.standing s.stance.stance.phase

abbrev pub IsIdle : Session → Type 0
IsIdle s =
    side_of s ≡ record { stance = closed_stance; pending = None; cursor = None; jobs = []; kept = [] }

-- An operation waits exactly if the phase is `Waiting` with this operation. The log then has room
-- for the operation's job, and the operation has a spare exactly if it takes a node.
abbrev pub Waits : Phase → Option PendingAt → ℕ → Type 0
Waits (Waiting op) (Some pending) room =
    (pending.op ≡ op) × (0 < room) × (is_some pending.spare ≡ may_change op)
Waits (Waiting op) None room = ⊥
Waits phase (Some pending) room = ⊥
Waits phase None room = Unit {0}

-- The stance, the waiting operation and the log of a caller agree. `room` is the room of the log.
pub record Agrees (side : Side) (room : ℕ) : Type 0 where
  pub standing : side.stance.standing ≡ length side.jobs
  pub kept : side.stance.kept ≡ 0 ∷ side.kept
  pub waits : Waits side.stance.phase side.pending room
  pub level : level_of side.stance.phase ≤ length side.kept

abbrev pub key_of_newest : Option MapJob → Option ℕ
key_of_newest None = None
key_of_newest (Some job) = Some (key_of_job job)

-- The key that a caller acts on next, if there is one.
abbrev pub target_in : Phase → LogAt MapJob → Option ℕ
target_in (Waiting op) log = Some (key_of op)
target_in (LeavingTo level) log = key_of_newest (newest_above log level)
target_in LeavingToEnd log = key_of_newest (newest_above log 0)
target_in phase log = None

abbrev pub target_of : Session → Option ℕ
target_of s = target_in s.stance.stance.phase s.log

abbrev pub spare_if : Option PendingAt → Option SpareAt
spare_if None = None
spare_if (Some pending) = pending.spare

-- How often the caller keeps the spare with this place and stamp, for its waiting operation and in
-- its log.
abbrev pub times_kept : Side → ℕ → ℕ → ℕ
times_kept side place stamp =
    times_of (spare_if side.pending) place stamp + times_in side.jobs place stamp

abbrev pub change_of : MapJob → ℕ × Option ℕ
change_of job = (key_of_job job, value_before job)

abbrev pub changes_of : List MapJob → List (ℕ × Option ℕ)
changes_of jobs = map change_of (reverse jobs)

-- The list has the newest job first. If the jobs run on the map in this order, each job is due
-- (`IsDue`) when it runs.
abbrev pub AreDue : Map → List MapJob → Type 0
AreDue m [] = Unit {0}
AreDue m (job ∷ jobs) = IsDue m job × AreDue (set_at m (key_of_job job) (value_before job)) jobs

-- If the caller has a cursor, it was placed for the key that the caller acts on next.
abbrev pub IsSoughtAt : TableAt → Option Cursor → Option ℕ → Type 0
IsSoughtAt t None target = Unit {0}
IsSoughtAt t (Some cursor) None = ⊥
IsSoughtAt t (Some cursor) (Some key) = IsPlaced t cursor key

abbrev pub IsSought : TableAt → Session → Type 0
IsSought t s = IsSoughtAt t s.cursor (target_of s)

-- Each spare of the log belongs to the table. Only one job keeps it, and nobody else does.
abbrev pub CanSettle : Session → TableAt → Type 0
CanSettle s t = (others : ℕ → ℕ → ℕ) × IsCoveredWith others (times_in s.log.jobs) t

-- A caller's side agrees with the table: its cursor was placed on the table, its jobs are due on
-- the table's content, and its spares belong to the table.
pub record GoesWith (s : Session) (t : TableAt) : Type 0 where
  pub agrees : Agrees (side_of s) s.log.room
  pub sought : IsSought t s
  pub due : AreDue (content t) (reverse s.log.jobs)
  pub withdraws : OwnsIf t (spare_if s.pending)
  pub settles : CanSettle s t

pub record KeepsPlaced (t t' : TableAt) : Type 0 where
  pub placed : (cursor : Cursor) (key : ℕ) → IsPlaced t cursor key → IsPlaced t' cursor key
  pub sound : IsSound t.list → IsSound t'.list

-- Only the spares of the table have changed. A cursor that was placed on the table is still placed.
pub record Rests (t t' : TableAt) : Type 0 where
  pub nodes : KeepsNodes t t'
  pub last : last_of t' ≡ last_of t
  pub placed : KeepsPlaced t t'

-- All that a step of a caller can change: the caller's side, the table and the stripes' holders.
pub record Reach : Type 0 where
  pub session : Session
  pub table : TableAt
  pub locks : List (Option ℕ)

abbrev pub reach : Session → TableAt → List (Option ℕ) → Reach
reach session table locks = record { session = session; table = table; locks = locks }

-- The operation is prepared and waits, and the log has room for its job. The caller holds the
-- stripe.
pub record AsksIn (c stripe : ℕ) (op : Op) (old new : Reach) : Type 0 where
  pub pending : PendingAt
  pub prepares : Prepares old.table new.table op pending
  pub grants : Grants c stripe old.locks new.locks
  pub becomes : side_of new.session ≡ record (side_of old.session) { pending = Some pending }
  pub room : 0 < new.session.log.room

-- Another caller holds the stripe, so the prepared operation is given up. In the asking caller's
-- session, only the room may have changed.
pub record MeetsIn (c stripe : ℕ) (op : Op) (holder : ℕ) (old new : Reach) : Type 0 where
  pub pending : PendingAt
  pub between : TableAt
  pub prepares : Prepares old.table between op pending
  pub back : GivesBack between new.table pending.spare
  pub refuses : Refuses c stripe holder old.locks new.locks
  pub becomes : side_of new.session ≡ side_of old.session

-- The caller has sought the key that it acts on next, and now has a cursor for this key. Its side
-- is unchanged otherwise.
pub record SeeksIn (s : Session) (t : TableAt) (s' : Session) (t' : TableAt) : Type 0 where
  pub key : ℕ
  pub cursor : Cursor
  pub target : target_of s ≡ Some key
  pub becomes : s' ≡ record s { cursor = Some cursor }
  pub places : Places t t' key cursor
  pub near : SeeksNear t t' key

-- The waiting operation may be done: the cursor was placed for its key, the table owns its spare,
-- if it has one, and the log has room for its job.
pub record CanAct (s : Session) (t : TableAt) : Type 0 where
  pub pending : PendingAt
  pub cursor : Cursor
  pub waits : s.pending ≡ Some pending
  pub had : s.cursor ≡ Some cursor
  pub placed : IsPlaced t cursor (key_of pending.op)
  pub owned : OwnsIf t pending.spare
  pub room : 0 < s.log.room

-- The cursor did not fit and is dropped.
pub record Drops (s : Session) (t : TableAt) (s' : Session) : Type 0 where
  pub cursor : Cursor
  pub had : s.cursor ≡ Some cursor
  pub stale : fits t cursor ≡ false
  pub becomes : s' ≡ record s { cursor = None }

-- The waiting operation is done. If it has a job, this job is now the newest in the log.
pub record DoesIn (s : Session) (t : TableAt) (reply : Option ℕ) (s' : Session)
    (t' : TableAt) : Type 0 where
  pub pending : PendingAt
  pub job : Option MapJob
  pub at : Cursor
  pub had : s.pending ≡ Some pending
  pub stood : s.cursor ≡ Some at
  pub fitting : fits t at ≡ true
  pub does : Does t t' pending reply job
  pub writes : OpWrites t.list t'.list pending.op pending.spare
      (get (content t) (key_of pending.op))
  pub becomes : side_of s'
      ≡ record (side_of s) {
        pending = None;
        cursor = None;
        jobs = s.log.jobs ++ option_to_list job;
      }

-- The newest change above the level may be taken back: the cursor was placed for its key, its job
-- is due, and the table owns the job's spare, if it has one.
pub record CanUndo (s : Session) (t : TableAt) : Type 0 where
  pub level : level_of s.stance.stance.phase ≤ length s.log.kept
  pub job : MapJob
  pub cursor : Cursor
  pub newest : newest_above s.log (level_of s.stance.stance.phase) ≡ Some job
  pub had : s.cursor ≡ Some cursor
  pub placed : IsPlaced t cursor (key_of_job job)
  pub due : IsDue (content t) job
  pub owned : OwnsIf t (spare_of_job job)

-- The newest change is taken back.
pub record TakesBackIn (s : Session) (t : TableAt) (s' : Session) (t' : TableAt) : Type 0 where
  pub job : MapJob
  pub at : Cursor
  pub stood : s.cursor ≡ Some at
  pub fitting : fits t at ≡ true
  pub back : TakesBack t t' job
  pub writes : JobWrites t.list t'.list job
  pub jobs : s.log.jobs ≡ s'.log.jobs ++ job ∷ []
  pub becomes : side_of s' ≡ record (side_of s) { cursor = None; jobs = s'.log.jobs }

-- The caller is taking changes back, and no change above its level remains.
pub record CanArrive (s : Session) : Type 0 where
  pub leaves : is_leaving s.stance.stance.phase ≡ true
  pub level : level_of s.stance.stance.phase ≤ length s.log.kept
  pub none_above : length s.log.jobs ≤ kept_at s.log.kept (level_of s.stance.stance.phase)

-- The caller has returned to its level. The later savepoints are dropped.
pub record ReturnsIn (n : ℕ) (s s' : Session) : Type 0 where
  pub phase : s.stance.stance.phase ≡ LeavingTo n
  pub becomes : side_of s' ≡ record (side_of s) { kept = take n s.log.kept }

-- The caller's abort has ended. Its savepoints are dropped, and its stripes are free.
pub record EndsIn (c : ℕ) (s : Session) (locks : List (Option ℕ)) (s' : Session)
    (locks' : List (Option ℕ)) : Type 0 where
  pub phase : s.stance.stance.phase ≡ LeavingToEnd
  pub becomes : side_of s' ≡ record (side_of s) { kept = [] }
  pub releases : Releases c locks locks'

-- A savepoint is set, and the stance has room for it.
pub record SavesIn (n : ℕ) (s s' : Session) : Type 0 where
  pub number : n ≡ length s.log.kept + 1
  pub room : 0 < s'.stance.room
  pub becomes : side_of s' ≡ record (side_of s) { kept = s.log.kept ++ length s.log.jobs ∷ [] }

-- The waiting operation is given up, and the caller's cursor is dropped.
pub record WithdrawsIn (s : Session) (t : TableAt) (s' : Session) (t' : TableAt) : Type 0 where
  pub rests : Rests t t'
  pub spares : StaysCovered t (times_kept (side_of s)) t' (times_kept (side_of s'))
  pub becomes : s' ≡ record s { pending = None; cursor = None }

-- All jobs of the log are dropped, together with their spares. All savepoints are dropped too.
pub record SettlesIn (s : Session) (t : TableAt) (s' : Session) (t' : TableAt) : Type 0 where
  pub rests : Rests t t'
  pub spares : StaysCovered t (times_in s.log.jobs) t' (times_in s'.log.jobs)
  pub becomes : side_of s' ≡ record (side_of s) { jobs = []; kept = [] }

-- The answer to a step that sets a savepoint, and the effect of this step.
abbrev pub Saves : Session → Answer → Session → Type 0
Saves s (Answer.Saved n) s' = SavesIn n s s'
Saves s (Answer.Refused NoMemory) s' = side_of s' ≡ side_of s
Saves s answer s' = ⊥

-- The answer to the step `Ask` if it locks the operation's stripe, and the effect of the step.
abbrev pub IsAsked : ℕ → ℕ → Op → Reach → Answer → Reach → Type 0
IsAsked c stripe op old Answer.Asked new = AsksIn c stripe op old new
IsAsked c stripe op old (Answer.Busy x) new = MeetsIn c stripe op x old new
IsAsked c stripe op old (Answer.Refused refusal) new =
    ((refusal ≡ NoMemory) ⊎ IsRefused old.table op refusal)
    × (side_of new.session ≡ side_of old.session) × (new ≡ record old { session = new.session })
IsAsked c stripe op old answer new = ⊥

-- The answer to the step `Ask` with the stripe's right, given the answer that the step has if it
-- locks the stripe. `Busy` becomes the refusal `StaleWord`.
abbrev pub unless_busy : Answer → Answer
unless_busy (Answer.Busy x) = Answer.Refused StaleWord
unless_busy answer = answer

-- The answer to the step `Ask` with this claim, and the effect of the step. If the claim is a word,
-- the step has no effect.
abbrev pub AsksBy : Claim → ℕ → ℕ → Op → Reach → Answer → Reach → Type 0
AsksBy Lock c stripe op old answer new = IsAsked c stripe op old answer new
AsksBy Right c stripe op old answer new =
    (own : Answer) × (answer ≡ unless_busy own) × IsAsked c stripe op old own new
AsksBy (Held named) c stripe op old answer new = (answer ≡ Answer.Busy named) × (new ≡ old)
AsksBy Stale c stripe op old answer new = (answer ≡ Answer.Refused StaleWord) × (new ≡ old)

-- The answer to the step `Act` for the waiting operation, and the effect of the step.
abbrev pub Replies : Session → TableAt → Answer → Session → TableAt → Type 0
Replies s t Answer.Again s' t' = Drops s t s' × (t' ≡ t)
Replies s t (Answer.Done reply) s' t' = DoesIn s t reply s' t'
Replies s t answer s' t' = ⊥

-- The answer to the step `Act` that takes back the newest change, and the effect of the step.
abbrev pub Undoes : Session → TableAt → Answer → Session → TableAt → Type 0
Undoes s t Answer.Again s' t' = Drops s t s' × (t' ≡ t)
Undoes s t Answer.Undone s' t' = TakesBackIn s t s' t'
Undoes s t answer s' t' = ⊥

-- The answer to the step `Act` that ends a return or an abort, and the effect of the step.
abbrev pub Arrives : ℕ → Session → List (Option ℕ) → Answer → Session → List (Option ℕ) → Type 0
Arrives c s locks (Answer.Returned n) s' locks' = ReturnsIn n s s' × (locks' ≡ locks)
Arrives c s locks Answer.Aborted s' locks' = EndsIn c s locks s' locks'
Arrives c s locks answer s' locks' = ⊥

-- The answer to the step `Act`, and the effect of the step.
abbrev pub ActsIn : ℕ → Reach → Answer → Reach → Type 0
ActsIn c old Answer.Again new =
    (has_target old.session.stance.stance ≡ true) × Drops old.session old.table new.session
    × (new ≡ record old { session = new.session })
ActsIn c old (Answer.Done reply) new =
    DoesIn old.session old.table reply new.session new.table × (new.locks ≡ old.locks)
ActsIn c old Answer.Undone new =
    (has_job old.session.stance.stance ≡ true)
    × TakesBackIn old.session old.table new.session new.table × (new.locks ≡ old.locks)
ActsIn c old (Answer.Returned n) new =
    (has_job old.session.stance.stance ≡ false) × ReturnsIn n old.session new.session
    × (new ≡ record old { session = new.session })
ActsIn c old Answer.Aborted new =
    (has_job old.session.stance.stance ≡ false)
    × EndsIn c old.session old.locks new.session new.locks × (new.table ≡ old.table)
ActsIn c old answer new = ⊥

-- What must hold before a session takes a step of caller `c`: no test refuses the step, the
-- caller's side agrees with the table, and the numbers are within their bounds.
pub record MayTakeStep (stripes : ℕ) (counts : Counts) (c : ℕ) (step : CallerStep)
    (old : Reach) : Type 0 where
  pub goes : GoesWith old.session old.table
  pub free : (half : Bool) × (refusal_in half old.session.stance.stance (step_by c step) ≡ None)
  pub placed : lacks_in old.session.stance.stance (is_some old.session.cursor) (step_by c step)
      ≡ false
  pub caller : c < 64
  pub many : length old.locks ≡ stripes
  pub some_stripe : 0 < stripes
  pub begins : counts.began < 2 ^ 63
  pub commits : counts.committed < 2 ^ 63

-- The effect of a step of caller `c`. It depends on the answer. Of the stance, only the room may
-- change: the step's entry is added to the stance afterwards.
abbrev pub HasEffect : ℕ → Counts → ℕ → CallerStep → Reach → Answer → Reach → Type 0
HasEffect stripes counts c CallerStep.Begin old (Answer.Began n) new =
    (n ≡ counts.began + 1) × (new ≡ old)
HasEffect stripes counts c (CallerStep.Ask op claim) old answer new =
    AsksBy claim c (stripe_of stripes (key_of op)) op old answer new
HasEffect stripes counts c CallerStep.Seek old Answer.Placed new =
    SeeksIn old.session old.table new.session new.table × (new.locks ≡ old.locks)
HasEffect stripes counts c CallerStep.Act old answer new = ActsIn c old answer new
HasEffect stripes counts c CallerStep.Save old answer new =
    Saves old.session answer new.session × (new ≡ record old { session = new.session })
HasEffect stripes counts c (CallerStep.Back n) old Answer.Leaving new =
    new ≡ record old { session = record old.session { cursor = None } }
HasEffect stripes counts c CallerStep.Commit old (Answer.Committed p) new =
    (p ≡ counts.committed + 1) × SettlesIn old.session old.table new.session new.table
    × Releases c old.locks new.locks
HasEffect stripes counts c CallerStep.Abort old Answer.Leaving new =
    WithdrawsIn old.session old.table new.session new.table × (new.locks ≡ old.locks)
HasEffect stripes counts c step old answer new = ⊥
