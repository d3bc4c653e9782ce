-- PROMISES each-change-has-an-inverse: Applies, TakesBack
-- The answer and the changes of each call. What concerns only the list is defined in `Lists`.
use Rattle.std.specs.Prelude.{◌≡◌, ◌≢◌, ◌+◌, ℕ, Bool, true, false, IfSome, Option, Some, None, is_some, if◌then◌else◌}
use Rattle.map_ops.specs.Vocabulary.{Op, Refusal, after, get, key_of}
use Rattle.node_list.specs.Nodes.{IsOut}
use Rattle.txn_words.specs.Map.{reply_of}
use Rattle.map_ops.specs.declared.act.Act.{Act}
use Rattle.map_ops.specs.declared.act.Act.TheVariants.{Acted, Again as ActAgain}
use Rattle.map_ops.specs.declared.act.Undo.{Undo}
use Rattle.map_ops.specs.declared.act.Undo.TheVariants.{Undone, Again as UndoAgain}
use Rattle.map_ops.specs.declared.job.MapJob.{MapJob}
use Rattle.map_ops.specs.declared.job.MapJob.TheVariants.{Relink}
use Rattle.map_ops.specs.Lists as lists
use Rattle.map_ops.specs.TableAt.{TableAt, Cursor, SpareAt, SweepOutcome, content, table_changes, last_of, linked_of, nodes_of}
use Rattle.map_ops.specs.TableAt.{nodes_sought, KeepsSpares, KeepsBuckets, KeepsNodes, KeepsTable, Follows}
use Rattle.map_ops.specs.TableAt.{IsPlaced, IsStart, SweepsNodes, cursor_changes, fits}
use Rattle.map_ops.specs.Jobs.{PendingAt, key_of_job, value_before, spare_of_job, job_of, IsDue}
use Rattle.txn_words.specs.Owed.{may_change}
use Rattle.map_ops.specs.Nodes.{IsUnlinking, JobWrites, OpWrites, WritesNothing}

-- The spare, if there is one, belongs to the table.
abbrev pub OwnsIf : TableAt → Option SpareAt → Type 0
OwnsIf t spare = IfSome spare (IsOut t.list)

-- The spare, if there is one, is no longer given out. All other spares are unchanged.
abbrev pub Spends : TableAt → TableAt → Option SpareAt → Type 0
Spends old new spare = lists.Spends old.list new.list spare

-- If a job owns the operation's spare, the spare remains given out. If not, it is spent (`Spends`).
abbrev pub SpendsFor : TableAt → TableAt → Option SpareAt → Option MapJob → Type 0
SpendsFor old new spare job = lists.SpendsFor old.list new.list spare job

-- A new spare is given out.
abbrev pub GivesSpare : TableAt → TableAt → SpareAt → Type 0
GivesSpare old new spare = lists.GivesSpare old.list new.list spare

-- If the operation takes a node, it is given a new spare. If not, it is given none.
abbrev pub GivesFor : TableAt → TableAt → Bool → Option SpareAt → Type 0
GivesFor old new takes spare = lists.GivesFor old.list new.list takes spare

-- The reason why an operation is not prepared.
abbrev pub IsRefused : TableAt → Op → Refusal → Type 0
IsRefused t op refusal = lists.IsRefused t.list op refusal

-- The operation is prepared: nothing but the spares and the last stamp has changed.
pub record Prepares (old new : TableAt) (op : Op) (pending : PendingAt) : Type 0 where
  pub on_list : lists.Prepares old.list new.list op pending
  pub open on_list use *
  pub nodes : KeepsNodes old new

-- A key was sought: marked nodes may have been unlinked, and the cursor fits.
pub record Places (old new : TableAt) (key : ℕ) (cursor : Cursor) : Type 0 where
  pub keeps : KeepsTable old new
  pub spares : KeepsSpares old new
  pub placed : IsPlaced new cursor key
  pub fits : fits new cursor ≡ true
  pub changes : cursor_changes cursor ≡ table_changes new

-- A key was sought from the dummy of the key's bucket, or of the bucket's nearest initialised
-- ancestor. The marked nodes between that dummy and the key's position are unlinked, and no others.
-- The change number grows by one for each unlinked node, up to 2^64 - 1.
pub record SeeksNear (old new : TableAt) (key : ℕ) : Type 0 where
  pub start : ℕ
  pub nearest : IsStart old key start
  pub nodes : nodes_of new ≡ nodes_sought old start key
  pub changes : IsUnlinking old.list new.list

-- The operation is done. Its reply and its effect are those of the operation on the map, and there
-- is a job exactly if the operation is a change. The buckets are unchanged.
pub record Does (old new : TableAt) (pending : PendingAt) (reply : Option ℕ)
    (job : Option MapJob) : Type 0 where
  pub on_list : lists.Does old.list new.list pending reply job
  pub open on_list use *
  pub buckets : KeepsBuckets old new
  pub linked : linked_of new ≡ linked_of old

-- A call of `act` at a cursor. If the cursor fits, the operation is done. If not, nothing has
-- changed, and the operation is returned.
abbrev pub Acts : TableAt → TableAt → PendingAt → Cursor → Act → Type 0
Acts old new pending cursor (Acted reply job) = (fits old cursor ≡ true)
    × Does old new pending reply job
Acts old new pending cursor (ActAgain back) = (fits old cursor ≡ false) × (back ≡ pending)
    × (new ≡ old)

-- The writes that a call of `act` makes.
abbrev pub ActWrites : TableAt → TableAt → PendingAt → Act → Type 0
ActWrites old new pending (Acted reply job) =
    OpWrites old.list new.list pending.op pending.spare (get (content old) (key_of pending.op))
ActWrites old new pending (ActAgain back) = WritesNothing old.list new.list

-- The change is taken back: the job's key now has the value that it had before the change, or no
-- value if it had none. Every other key and the buckets are unchanged.
pub record TakesBack (old new : TableAt) (job : MapJob) : Type 0 where
  pub on_list : lists.TakesBack old.list new.list job
  pub open on_list use *
  pub buckets : KeepsBuckets old new
  pub linked : linked_of new ≡ linked_of old

-- A call of `undo` at a cursor. If the cursor fits, the change is taken back. If not, nothing has
-- changed, and the job is returned.
abbrev pub Undoes : TableAt → TableAt → MapJob → Cursor → Undo → Type 0
Undoes old new job cursor Undone = (fits old cursor ≡ true) × TakesBack old new job
Undoes old new job cursor (UndoAgain back) = (fits old cursor ≡ false) × (back ≡ job) × (new ≡ old)

-- The writes that a call of `undo` makes.
abbrev pub UndoWrites : TableAt → TableAt → MapJob → Undo → Type 0
UndoWrites old new job Undone = JobWrites old.list new.list job
UndoWrites old new job (UndoAgain back) = WritesNothing old.list new.list

-- The job's key is sought, and a write at the key's position takes the job's change back.
pub record SeeksAndUndoes (old new : TableAt) (job : MapJob) : Type 0 where
  pub sought : TableAt
  pub near : SeeksNear old sought (key_of_job job)
  pub writes : JobWrites sought.list new.list job

-- A spare, if there is one, is given back, and nothing else has changed.
pub record GivesBack (old new : TableAt) (spare : Option SpareAt) : Type 0 where
  pub on_list : lists.GivesBack old.list new.list spare
  pub open on_list use *
  pub nodes : KeepsNodes old new

-- The spares after `apply` has done an operation. If the operation's job owns a spare, this spare
-- is newly given out (`GivesSpare`). All other spares are unchanged.
abbrev pub JobSpare : TableAt → TableAt → Option MapJob → Type 0
JobSpare old new (Some (Relink k before spare)) = GivesSpare old new spare
JobSpare old new job = KeepsSpares old new

-- `apply` has done an operation. The reply and the effect are those of the operation on the map,
-- and there is a job exactly if the operation is a change. The operation's key is sought, and the
-- write is made at the key's position.
pub record Applies (old new : TableAt) (op : Op) (reply : Option ℕ)
    (job : Option MapJob) : Type 0 where
  pub spare : Option SpareAt
  pub reply_is : reply ≡ reply_of (content old) op
  pub content_is : content new ≡ after (content old) op
  pub job_is : job ≡ job_of (content old) op spare
  pub spare_is : is_some spare ≡ may_change op
  pub spares : JobSpare old new job
  pub buckets : KeepsBuckets old new
  pub linked : linked_of new ≡ linked_of old
  pub last : last_of new ≡ last_of old + (if may_change op then 1 else 0)
  pub sought : TableAt
  pub near : SeeksNear old sought (key_of op)
  pub writes : OpWrites sought.list new.list op spare (get (content old) (key_of op))

-- What a call of `sweep` changes. Either the first marked node is unlinked and nothing else has
-- changed, or no node is marked and nothing has changed.
abbrev pub Sweeps : TableAt → TableAt → SweepOutcome → Type 0
Sweeps old new outcome = SweepsNodes old new outcome × KeepsBuckets old new

-- The job's key is as the change left it (`IsDue`), and the job's spare, if it has one, belongs to
-- the table.
abbrev pub ShowsAfter : MapJob → TableAt → Type 0
ShowsAfter job t = IsDue (content t) job × OwnsIf t (spare_of_job job)

-- The job's key has the value that it had before the change, or no value if it had none.
abbrev pub ShowsBefore : MapJob → TableAt → Type 0
ShowsBefore job t = get (content t) (key_of_job job) ≡ value_before job

-- What running a job changes. The job's key is sought, and the job's change is taken back at the
-- key's position. The new table follows the old one (`Follows`).
pub record RunsJob (old new : TableAt) (job : MapJob) : Type 0 where
  pub back : TakesBack old new job
  pub writes : SeeksAndUndoes old new job
  pub follows : Follows old new

-- The two spares, if there are two, have different places.
abbrev pub AreApart : Option SpareAt → Option SpareAt → Type 0
AreApart None other = Unit {0}
AreApart (Some spare) None = Unit {0}
AreApart (Some spare) (Some other) = spare.place ≢ other.place
