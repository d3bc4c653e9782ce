-- How a list changes if a dummy is linked.
use Rattle.std.specs.Prelude.{◌≡◌, ◌≢◌, ℕ, ◌+◌, ◌-◌, ◌<◌, ◌^◌, ◌==◌, ◌||◌}
use Rattle.node_list.specs.Nodes.{Listing, IsLinked, out_at, linked_after, one_more}
use Rattle.bucket_table.specs.declared.answer.InitRefusal.{InitRefusal}
use Rattle.bucket_table.specs.declared.answer.InitRefusal.TheVariants.{NoSuchBucket, ParentMissing, NoSuchHelper, HelperOutOfOrder, NoMemory, StampsUsedUp}
use Rattle.bucket_table.specs.Dummies.{IsDummyAt, dummy_node, has_dummy}

-- The dummy of a bucket is linked right after the node `pred`, at this place and with a new stamp.
pub record LinksAt (before after : Listing) (pred bucket place : ℕ) : Type 0 where
  pub linked : IsLinked before.nodes pred
  pub nodes : after.nodes
      ≡ linked_after before.nodes pred (dummy_node place bucket (before.last + 1))
  pub dummy : IsDummyAt after.nodes place bucket
  pub head : after.head ≡ before.head
  pub changes : after.changes ≡ one_more before.changes
  pub last : after.last ≡ before.last + 1
  pub room : before.last ≢ 2 ^ 64 - 2
  pub out : (other : ℕ) → out_at after other ≡ out_at before other
  pub dummies : (other : ℕ) → other < 2 ^ 32
      → has_dummy after.nodes other ≡ ((bucket == other) || has_dummy before.nodes other)

-- No dummy was linked, nothing has changed, and this refusal is the reason. It is `StampsUsedUp`
-- exactly if the last stamp given is 2^64 - 2. Otherwise it is `NoMemory`: memory was refused, or
-- the list has no place left.
abbrev pub IsUnlinked : Listing → Listing → InitRefusal → Type 0
IsUnlinked before after StampsUsedUp = (after ≡ before) × (before.last ≡ 2 ^ 64 - 2)
IsUnlinked before after NoMemory = (after ≡ before) × (before.last ≢ 2 ^ 64 - 2)
IsUnlinked before after NoSuchBucket = ⊥
IsUnlinked before after ParentMissing = ⊥
IsUnlinked before after NoSuchHelper = ⊥
IsUnlinked before after HelperOutOfOrder = ⊥
