-- The writes to the linked nodes and to the change number.
use Rattle.std.specs.Prelude.{◌≡◌, ℕ, ◌-◌, List, Option, Some, None, Bool, true, false, length, nat_eq}
use Rattle.map_ops.specs.Vocabulary.{Get, IsLinked, Listing, NodeAt, Op, Put, PutIf, Regular, SpareAt, Take, linked_after, marked_at}
use Rattle.map_ops.specs.Vocabulary.{node_of, option_eq, regular_at, written_at}
use Rattle.node_list.specs.Nodes.{one_more, changes_after}
use Rattle.map_ops.specs.declared.job.MapJob.{MapJob}
use Rattle.map_ops.specs.declared.job.MapJob.TheVariants.{Unput, Restore, Relink}

-- The unmarked node that has this key, this value, and the place and the stamp of this spare.
abbrev pub node_for : ℕ → ℕ → SpareAt → NodeAt
node_for key value spare = record {
  place = spare.place;
  at = regular_at key;
  kind = Regular;
  value = value;
  stamp = spare.stamp;
  marked = false;
}

-- The node is linked, and it is the key's unmarked regular node.
pub record IsNodeOf (nodes : List NodeAt) (key : ℕ) (node : NodeAt) : Type 0 where
  pub is : node_of nodes node.place ≡ Some node
  pub kind : node.kind ≡ Regular
  pub at : node.at ≡ regular_at key
  pub unmarked : node.marked ≡ false

-- Nothing is written: the nodes and the change number are unchanged.
pub record WritesNothing (old new : Listing) : Type 0 where
  pub nodes : new.nodes ≡ old.nodes
  pub changes : new.changes ≡ old.changes

-- There is one write: the new nodes are `now`, and the change number is one higher, up to 2^64 - 1.
pub record WritesOnce (old new : Listing) (now : List NodeAt) : Type 0 where
  pub nodes : new.nodes ≡ now
  pub changes : new.changes ≡ one_more old.changes

-- The change number has grown by the number of nodes that were unlinked, but not above 2^64 - 1.
abbrev pub IsUnlinking : Listing → Listing → Type 0
IsUnlinking old new = new.changes ≡ changes_after old.changes (length old.nodes - length new.nodes)

-- The node is linked right after some node of the old list.
pub record LinksNode (old new : Listing) (node : NodeAt) : Type 0 where
  pub before : ℕ
  pub linked : IsLinked old.nodes before
  pub writes : WritesOnce old new (linked_after old.nodes before node)

-- The key's node is marked.
pub record MarksNode (old new : Listing) (key : ℕ) : Type 0 where
  pub node : NodeAt
  pub its : IsNodeOf old.nodes key node
  pub writes : WritesOnce old new (marked_at old.nodes node.place)

-- The key's node has this value now.
pub record WritesNode (old new : Listing) (key value : ℕ) : Type 0 where
  pub node : NodeAt
  pub its : IsNodeOf old.nodes key node
  pub writes : WritesOnce old new (written_at old.nodes node.place value)

-- A put links its spare's node if the key had no value, and writes the key's node if it had one.
abbrev pub PutWrites : Listing → Listing → ℕ → ℕ → Option SpareAt → Option ℕ → Type 0
PutWrites old new key value None before = ⊥
PutWrites old new key value (Some spare) None = LinksNode old new (node_for key value spare)
PutWrites old new key value (Some spare) (Some was) = WritesNode old new key value

-- A take marks the key's node if the key had a value.
abbrev pub TakeWrites : Listing → Listing → ℕ → Option ℕ → Type 0
TakeWrites old new key None = WritesNothing old new
TakeWrites old new key (Some was) = MarksNode old new key

-- A `PutIf` writes as a put does if its condition holds, and writes nothing if it does not.
abbrev pub PutIfWrites : Listing → Listing → ℕ → ℕ → Option SpareAt → Option ℕ → Bool → Type 0
PutIfWrites old new key value spare before true = PutWrites old new key value spare before
PutIfWrites old new key value spare before false = WritesNothing old new

-- The writes that an operation makes, given its spare and the value that its key had before. A get
-- writes nothing.
abbrev pub OpWrites : Listing → Listing → Op → Option SpareAt → Option ℕ → Type 0
OpWrites old new (Put k v) spare before = PutWrites old new k v spare before
OpWrites old new (Take k) spare before = TakeWrites old new k before
OpWrites old new (Get k) spare before = WritesNothing old new
OpWrites old new (PutIf k expected v) spare before =
    PutIfWrites old new k v spare before (option_eq nat_eq before expected)

-- The write that takes a job's change back.
abbrev pub JobWrites : Listing → Listing → MapJob → Type 0
JobWrites old new (Unput k) = MarksNode old new k
JobWrites old new (Restore k was) = WritesNode old new k was
JobWrites old new (Relink k was spare) = LinksNode old new (node_for k was spare)
