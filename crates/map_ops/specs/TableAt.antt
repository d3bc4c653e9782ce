-- PROMISES each-change-has-an-inverse: content, regular, Follows
-- A table as contracts see it.
use Rattle.std.specs.Prelude.{◌≡◌, ℕ, ◌<◌, ◌≤◌, ◌-◌, ◌%◌, ◌^◌, Bool, true, false, Option, Some, None, List, [], ◌∷◌, map, is_some}
use Rattle.std.specs.Prelude.{replicate, slice_index_or}
use Rattle.map_ops.specs.Vocabulary.{AllByRecursion, Directory, Helper, Holding, Idle, IsHome, IsNearest, IsRising, Listing, Map, Seeking}
use Rattle.map_ops.specs.Vocabulary.{cursor_fits, empty, first_dummy, has_dummy, helper_of, limit_of, out_at, pairs}
use Rattle.map_ops.specs.Vocabulary.{range_with_len, regular_at, sought}
use Rattle.map_ops.specs.Lists as lists
pub use Rattle.map_ops.specs.Lists.{map_of}
pub use Rattle.node_list.specs.Nodes.{NodeAt, SpareAt}
use Rattle.node_list.specs.Follow as nodes
use Rattle.node_list.specs.Sound as sound_lists
pub use Rattle.list_steps.specs.declared.cursor.Cursor.{Cursor}
pub use Rattle.list_steps.specs.declared.sweeps.SweepOutcome.{SweepOutcome}
use Rattle.list_steps.specs.Steps as steps
use Rattle.list_steps.specs.Found as cursors
use Rattle.bucket_table.specs.Directory as directories
pub use Rattle.bucket_table.specs.Helpers.{Help, Nothing, Sought, Dummy, help_of}

-- The list of nodes and the buckets. Contracts speak of these two only through the definitions
-- below.
pub record TableAt : Type 0 where
  pub list : Listing
  pub buckets : Directory

-- The table that has this list and these buckets.
abbrev pub table_of : Listing → Directory → TableAt
table_of list buckets = record { list = list; buckets = buckets }

-- The linked nodes in order, the marked ones too.
abbrev pub nodes_of : TableAt → List NodeAt
nodes_of t = t.list.nodes

-- The key and the value of each linked, unmarked, regular node, in the list's order.
abbrev pub regular : TableAt → List (ℕ × ℕ)
regular t = pairs t.list.nodes

-- The content: the map of the pairs of `regular`.
abbrev pub content : TableAt → Map
content t = map_of (regular t)

-- The change number.
abbrev pub table_changes : TableAt → ℕ
table_changes t = t.list.changes

-- The last stamp given.
abbrev pub last_of : TableAt → ℕ
last_of t = t.list.last

-- The number of buckets now.
abbrev pub size_of : TableAt → ℕ
size_of t = t.buckets.size

-- The largest number of buckets.
abbrev pub largest_of : TableAt → ℕ
largest_of t = limit_of t.buckets

-- For each bucket, whether it is stored, which means initialised.
abbrev pub stored_of : TableAt → List Bool
stored_of t = map is_some t.buckets.entries

-- For each bucket, whether its dummy is linked.
abbrev pub linked_of : TableAt → List Bool
linked_of t = map (has_dummy t.list.nodes) (range_with_len 0 (limit_of t.buckets))

-- For each helper, its state.
abbrev pub helps_of : TableAt → List Help
helps_of t = map help_of t.buckets.helpers

-- The buckets are unchanged, and so is everything that is read from them.
pub record KeepsBuckets (old new : TableAt) : Type 0 where
  pub all : new.buckets ≡ old.buckets
  pub size : size_of new ≡ size_of old
  pub largest : largest_of new ≡ largest_of old
  pub stored : stored_of new ≡ stored_of old
  pub helps : helps_of new ≡ helps_of old

-- The list is unchanged: its nodes, the spares that are given out, the change number and the last
-- stamp.
abbrev pub KeepsList : TableAt → TableAt → Type 0
KeepsList old new = new.list ≡ old.list

-- The nodes, the buckets and the change number are unchanged. Spares may be given out or taken
-- back, and new stamps may be given.
pub record KeepsNodes (old new : TableAt) : Type 0 where
  pub all : nodes_of new ≡ nodes_of old
  pub regular : regular new ≡ regular old
  pub buckets : KeepsBuckets old new
  pub linked : linked_of new ≡ linked_of old
  pub changes : table_changes new ≡ table_changes old

-- True if the cursor of the helper with this number fits.
abbrev pub helper_fits : TableAt → ℕ → Bool
helper_fits t helper = cursor_fits t.list (helper_of t.buckets helper)

-- The cursor of a helper, if it has one.
abbrev pub cursor_in : Helper → Option Cursor
cursor_in Idle = None
cursor_in (Seeking bucket cursor) = Some cursor
cursor_in (Holding bucket dummy) = None

-- For each helper, its cursor, if it has one.
abbrev pub cursors_of : TableAt → List (Option Cursor)
cursors_of t = map cursor_in t.buckets.helpers

-- The cursor of the helper with this number, if it has one.
abbrev pub helper_cursor : TableAt → ℕ → Option Cursor
helper_cursor t helper = slice_index_or (cursors_of t) helper None

-- The stamp of the spare that is given out at this place, if there is one. A spare counts as given
-- out until it is used or given back.
abbrev pub spare_out : TableAt → ℕ → Option ℕ
spare_out t place = out_at t.list place

-- The spares that are given out are unchanged.
abbrev pub KeepsSpares : TableAt → TableAt → Type 0
KeepsSpares old new = lists.KeepsSpares old.list new.list

-- The change number that the cursor noted when it was placed.
abbrev pub cursor_changes : Cursor → ℕ
cursor_changes cursor = cursors.change_number_of cursor

-- True if the cursor fits: its two nodes are still neighbours, and unmarked.
abbrev pub fits : TableAt → Cursor → Bool
fits t cursor = cursors.fits t.list cursor

-- The cursor was placed on this table for this key, now or earlier. If the change number is below
-- 2^64 - 1 and still the one that the cursor noted, the cursor fits.
pub record IsPlaced (t : TableAt) (cursor : Cursor) (key : ℕ) : Type 0 where
  pub list : cursors.IsPlaced t.list cursor
  pub at_is : cursors.at_of cursor ≡ regular_at key
  pub held : table_changes t ≡ cursor_changes cursor → table_changes t < 2 ^ 64 - 1
      → fits t cursor ≡ true

-- A seek of the key starts from the dummy at this place: the dummy of the key's bucket if the
-- bucket is initialised, else the dummy of the bucket's nearest initialised ancestor.
abbrev pub IsStart : TableAt → ℕ → ℕ → Type 0
IsStart t key place = IsNearest t.buckets (key % size_of t) place

-- The linked nodes after a seek of a key from a place: all but the marked nodes between that place
-- and the key's position.
abbrev pub nodes_sought : TableAt → ℕ → ℕ → List NodeAt
nodes_sought t place key = sought t.list.nodes place (regular_at key)

-- No linked node is marked.
abbrev pub IsClean : TableAt → Type 0
IsClean t = AllByRecursion (λ n. n.marked ≡ false) (nodes_of t)

-- If the outcome is `Swept`, the first marked node is unlinked and the spares are unchanged. If it
-- is `Clean`, nothing has changed.
abbrev pub SweepsNodes : TableAt → TableAt → SweepOutcome → Type 0
SweepsNodes old new outcome = steps.Sweeps old.list new.list outcome

-- The linked nodes are in strictly rising order: by split key and, where split keys are equal, by
-- key.
abbrev pub IsSplitOrdered : TableAt → Type 0
IsSplitOrdered t = IsRising (nodes_of t)

-- The list is sound: its nodes are in order and at different places, no dummy is marked, and no
-- stamp is used twice.
abbrev pub HasSoundList : TableAt → Type 0
HasSoundList t = sound_lists.IsSound t.list

-- Each initialised bucket names its linked dummy. A helper's dummy is the linked dummy of the
-- helper's bucket. A helper's cursor was placed on the list for the dummy of the helper's bucket.
abbrev pub NamesDummies : TableAt → Type 0
NamesDummies t = IsHome t.buckets t.list

-- The sizes are powers of two, and no bucket is initialised before its parent.
abbrev pub HasParents : TableAt → Type 0
HasParents t = directories.IsSound t.buckets

-- The same table at two times. The new list follows the old one, as `Follows` of `node_list` says,
-- and the last stamp has not fallen. Every cursor that was placed on the old table is still placed
-- on the new one.
pub record Follows (old new : TableAt) : Type 0 where
  pub list : nodes.Follows old.list new.list
  pub last : last_of old ≤ last_of new
  pub placed : (cursor : Cursor) (key : ℕ) → IsPlaced old cursor key → IsPlaced new cursor key

-- An empty table that has two buckets, and helpers that are all idle. Only bucket 0 is stored, only
-- its dummy is linked, and no spare is given out.
pub record IsNew (t : TableAt) (largest helpers : ℕ) : Type 0 where
  pub nodes_are : nodes_of t ≡ first_dummy t.list.head 0 ∷ []
  pub regular_is : regular t ≡ []
  pub content_is : content t ≡ empty
  pub size_is : size_of t ≡ 2
  pub largest_is : largest_of t ≡ largest
  pub stored_is : stored_of t ≡ true ∷ replicate (largest - 1) false
  pub linked_is : linked_of t ≡ true ∷ replicate (largest - 1) false
  pub helps_is : helps_of t ≡ replicate helpers Nothing
  pub changes_is : table_changes t ≡ 0
  pub last_is : last_of t ≡ 0
  pub none_out : (place : ℕ) → spare_out t place ≡ None

-- The pairs, the buckets, the linked dummies and the last stamp are unchanged.
pub record KeepsTable (old new : TableAt) : Type 0 where
  pub regular : regular new ≡ regular old
  pub dummies : lists.KeepsDummies old.list new.list
  pub buckets : KeepsBuckets old new
  pub linked : linked_of new ≡ linked_of old
  pub last : last_of new ≡ last_of old
