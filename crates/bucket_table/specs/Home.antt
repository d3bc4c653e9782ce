-- PROMISES buckets: IsHome
-- The condition that the buckets of a table fit a list.
use Rattle.std.specs.Prelude.{◌≡◌, ℕ, Some, All}
use Rattle.node_list.specs.Nodes.{Listing}
use Rattle.list_steps.specs.Found.{IsPlaced, at_of}
use Rattle.split_key.specs.Sort.{dummy_at}
use Rattle.bucket_table.specs.declared.helper.Helper.{Helper}
use Rattle.bucket_table.specs.declared.helper.Helper.TheVariants.{Idle, Seeking, Holding}
use Rattle.bucket_table.specs.Directory.{Directory, dummy_of}
use Rattle.bucket_table.specs.Dummies.{IsDummyAt}

-- If the helper has a cursor, the cursor was placed on the list for the dummy of the helper's
-- bucket. If the helper has a dummy, it is the linked dummy of the helper's bucket.
abbrev pub IsHelperHome : Listing → Helper → Type 0
IsHelperHome l Idle = Unit {0}
IsHelperHome l (Seeking bucket cursor) = IsPlaced l cursor × (at_of cursor ≡ dummy_at bucket)
IsHelperHome l (Holding bucket dummy) = IsDummyAt l.nodes dummy bucket

-- The buckets fit this list: each stored bucket names its linked dummy, and each helper's cursor or
-- dummy belongs to this list (`IsHelperHome`). If the list changes as `Follows` says, `IsHome`
-- still holds.
pub record IsHome (d : Directory) (l : Listing) : Type 0 where
  pub stored : (bucket place : ℕ) → dummy_of d bucket ≡ Some place → IsDummyAt l.nodes place bucket
  pub helpers : All (IsHelperHome l) d.helpers
