-- What the functions in `src/change.rt` read and change: the list of a table. They know no buckets.
use Rattle.std.specs.Prelude.{◌≡◌, ◌≢◌, ℕ, ◌+◌, ◌<◌, ◌-◌, ◌^◌, Bool, true, false, Option, Some, None, List}
use Rattle.map_ops.specs.Vocabulary.{IsVacant, Listing, Map, NodeAt, Op, Refusal, SpareAt, after, empty, fold, get, has_dummy, insert}
use Rattle.map_ops.specs.Vocabulary.{out_at, pairs, regular_at, set_at}
use Rattle.node_list.specs.Nodes.{IsOut}
use Rattle.txn_words.specs.Map.{reply_of}
use Rattle.txn_words.specs.declared.refusal.Refusal.TheVariants.{StampsUsedUp, NoMemory}
use Rattle.map_ops.specs.declared.job.MapJob.{MapJob}
use Rattle.map_ops.specs.declared.job.MapJob.TheVariants.{Relink}
use Rattle.map_ops.specs.Jobs.{PendingAt, job_of, key_of_job, spare_of_job, value_before}
use Rattle.txn_words.specs.Owed.{may_change}
use Rattle.map_ops.specs.Nodes.{IsNodeOf, WritesNothing}

-- The map that has these pairs.
abbrev pub map_of : List (ℕ × ℕ) → Map
map_of rows = fold (λ m pair. insert m pair.0 pair.1) empty rows

-- The content: the map of the list's pairs.
abbrev pub content : Listing → Map
content l = map_of (pairs l.nodes)

-- The key's node is linked at the place, and the key has the node's value.
pub record HasNode (l : Listing) (key place : ℕ) : Type 0 where
  pub node : NodeAt
  pub its : IsNodeOf l.nodes key node
  pub place_is : place ≡ node.place
  pub value : get (content l) key ≡ Some node.value

-- The key has no value, and a node for the key belongs right after the node at this place.
pub record HasGap (l : Listing) (key pred : ℕ) : Type 0 where
  pub vacant : IsVacant l.nodes pred (regular_at key)
  pub none : get (content l) key ≡ None

-- The arguments are a list, a key, a place, and a second place or `None`. If there is a second
-- place, the key's node is linked at that place. If not, a node for the key belongs right after the
-- node at the first place.
abbrev pub Stands : Listing → ℕ → ℕ → Option ℕ → Type 0
Stands l key pred None = HasGap l key pred
Stands l key pred (Some place) = HasNode l key place

-- The second place of `Stands` if there is one, else the first.
abbrev pub place_in : ℕ → Option ℕ → ℕ
place_in pred None = pred
place_in pred (Some place) = place

-- The spares that are given out at all places but this one are unchanged.
abbrev pub KeepsOthers : Listing → Listing → ℕ → Type 0
KeepsOthers old new place = (other : ℕ) → other ≢ place → out_at new other ≡ out_at old other

-- The spares that are given out are unchanged.
abbrev pub KeepsSpares : Listing → Listing → Type 0
KeepsSpares old new = (place : ℕ) → out_at new place ≡ out_at old place

-- The spare, if there is one, is no longer given out. All other spares are unchanged.
abbrev pub Spends : Listing → Listing → Option SpareAt → Type 0
Spends old new None = KeepsSpares old new
Spends old new (Some spare) = (out_at new spare.place ≡ None) × KeepsOthers old new spare.place

-- If a job owns the operation's spare, the spare remains given out. If not, it is spent (`Spends`).
abbrev pub SpendsFor : Listing → Listing → Option SpareAt → Option MapJob → Type 0
SpendsFor old new spare (Some (Relink k before kept)) = KeepsSpares old new
SpendsFor old new spare job = Spends old new spare

-- A new spare is given out. It has the next stamp, and no spare was given out at its place before.
pub record GivesSpare (old new : Listing) (spare : SpareAt) : Type 0 where
  pub room : old.last < 2 ^ 64 - 2
  pub stamp : spare.stamp ≡ old.last + 1
  pub last : new.last ≡ old.last + 1
  pub fresh : out_at old spare.place ≡ None
  pub owned : IsOut new spare
  pub others : KeepsOthers old new spare.place

-- A new spare is given out. Apart from this spare, only the last stamp has changed.
pub record GivesOne (old new : Listing) (spare : SpareAt) : Type 0 where
  pub given : GivesSpare old new spare
  pub writes : WritesNothing old new

-- The reason why no spare is given out.
abbrev pub IsLacking : Listing → Refusal → Type 0
IsLacking l StampsUsedUp = l.last ≡ 2 ^ 64 - 2
IsLacking l NoMemory = l.last < 2 ^ 64 - 2
IsLacking l refusal = ⊥

-- The reason why an operation that takes a node is not prepared. The reason is `StampsUsedUp`
-- exactly if the last stamp given is 2^64 - 2. Otherwise it is `NoMemory`: memory was refused, or
-- the list has no place left.
abbrev pub IsRefused : Listing → Op → Refusal → Type 0
IsRefused l op StampsUsedUp = (may_change op ≡ true) × IsLacking l StampsUsedUp
IsRefused l op NoMemory = (may_change op ≡ true) × IsLacking l NoMemory
IsRefused l op refusal = ⊥

-- If the operation takes a node, it is given a new spare. If not, it is given none, and nothing has
-- changed.
abbrev pub GivesFor : Listing → Listing → Bool → Option SpareAt → Type 0
GivesFor old new true None = ⊥
GivesFor old new true (Some spare) = GivesSpare old new spare
GivesFor old new false None = new ≡ old
GivesFor old new false (Some spare) = ⊥

-- The operation is prepared: nothing but the spares and the last stamp has changed.
pub record Prepares (old new : Listing) (op : Op) (pending : PendingAt) : Type 0 where
  pub op_is : pending.op ≡ op
  pub given : GivesFor old new (may_change op) pending.spare
  pub writes : WritesNothing old new

-- A spare, if there is one, is given back, and nothing else has changed.
pub record GivesBack (old new : Listing) (spare : Option SpareAt) : Type 0 where
  pub writes : WritesNothing old new
  pub last : new.last ≡ old.last
  pub spares : Spends old new spare

-- The dummies of the same buckets are linked.
abbrev pub KeepsDummies : Listing → Listing → Type 0
KeepsDummies old new = (bucket : ℕ) → has_dummy new.nodes bucket ≡ has_dummy old.nodes bucket

-- The content is now `m`. The linked dummies and the last stamp are unchanged.
pub record TurnsInto (old new : Listing) (m : Map) : Type 0 where
  pub content_is : content new ≡ m
  pub dummies : KeepsDummies old new
  pub last : new.last ≡ old.last

-- The key now has this value; if `value` is `None`, the key now has no value. Every other key, the
-- linked dummies and the last stamp are unchanged.
abbrev pub Sets : Listing → Listing → ℕ → Option ℕ → Type 0
Sets old new key value = TurnsInto old new (set_at (content old) key value)

-- The operation is done. Its reply and its effect are those of the operation on the map, and there
-- is a job exactly if the operation is a change.
pub record Does (old new : Listing) (pending : PendingAt) (reply : Option ℕ)
    (job : Option MapJob) : Type 0 where
  pub reply_is : reply ≡ reply_of (content old) pending.op
  pub job_is : job ≡ job_of (content old) pending.op pending.spare
  pub spares : SpendsFor old new pending.spare job
  pub turns : TurnsInto old new (after (content old) pending.op)
  pub open turns use *

-- The change is taken back: the job's key now has the value that it had before the change, or no
-- value if it had none. Every other key is unchanged.
pub record TakesBack (old new : Listing) (job : MapJob) : Type 0 where
  pub sets : Sets old new (key_of_job job) (value_before job)
  pub open sets use *
  pub spares : Spends old new (spare_of_job job)
