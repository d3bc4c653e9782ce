-- The changes that each call makes.
use Rattle.std.specs.Prelude.{◌≡◌, ℕ, ◌-◌, Some, Result, Ok, Err, length}
use Rattle.node_list.specs.Nodes.{Listing, changes_after}
use Rattle.list_steps.specs.declared.cursor.Cursor.{Cursor}
use Rattle.list_steps.specs.Found.{IsFound, at_of, pred_of}
use Rattle.list_steps.specs.Seek.{KeepsRest, sought}
use Rattle.split_key.specs.Split.{parent_of}
use Rattle.split_key.specs.Sort.{dummy_at}
use Rattle.bucket_table.specs.declared.answer.InitSeek.{InitSeek}
use Rattle.bucket_table.specs.declared.answer.InitSeek.TheVariants.{Ready, Placed}
use Rattle.bucket_table.specs.declared.answer.InitLink.{InitLink}
use Rattle.bucket_table.specs.declared.answer.InitLink.TheVariants.{Again, Present, Linked}
use Rattle.bucket_table.specs.declared.answer.InitRefusal.{InitRefusal}
use Rattle.bucket_table.specs.declared.answer.Double.{Double}
use Rattle.bucket_table.specs.declared.answer.Double.TheVariants.{Moved, AtLimit, Light, Doubled}
use Rattle.bucket_table.specs.declared.helper.Helper.TheVariants.{Idle, Seeking, Holding}
use Rattle.bucket_table.specs.Directory.{Directory, dummy_of, helper_of, with_helper, with_dummy, with_size}
use Rattle.bucket_table.specs.Dummies.{IsDummyAt}
use Rattle.bucket_table.specs.Links.{LinksAt}

-- The helper has a cursor for the bucket's dummy. The seek began at the dummy of the bucket's
-- parent, and unlinked exactly the marked nodes between this dummy and the position found. The
-- change number grows by one for each of these nodes, up to 2^64 - 1.
pub record Seeks (old new : Directory) (before after : Listing) (helper bucket : ℕ) : Type 0 where
  pub cursor : Cursor
  pub now : new ≡ with_helper old helper (Seeking bucket cursor)
  pub found : IsFound after cursor
  pub at : at_of cursor ≡ dummy_at bucket
  pub from : ℕ
  pub parent : dummy_of old (parent_of bucket) ≡ Some from
  pub nodes : after.nodes ≡ sought before.nodes from (dummy_at bucket)
  pub changes : after.changes
      ≡ changes_after before.changes (length before.nodes - length after.nodes)
  pub rest : KeepsRest before after

-- What changes when a helper seeks a bucket, for each result.
abbrev pub SeekChanges : Directory → Directory → Listing → Listing → ℕ → ℕ
    → Result InitSeek InitRefusal → Type 0
SeekChanges old new before after helper bucket (Ok Ready) = (new ≡ with_helper old helper Idle)
    × (after ≡ before)
SeekChanges old new before after helper bucket (Ok Placed) =
    Seeks old new before after helper bucket
SeekChanges old new before after helper bucket (Err refusal) = (new ≡ old) × (after ≡ before)

-- The helper has the dummy of its bucket, and this dummy is linked.
pub record HoldsDummy (old new : Directory) (after : Listing) (helper : ℕ) : Type 0 where
  pub bucket : ℕ
  pub cursor : Cursor
  pub place : ℕ
  pub had : helper_of old helper ≡ Some (Seeking bucket cursor)
  pub now : new ≡ with_helper old helper (Holding bucket place)
  pub dummy : IsDummyAt after.nodes place bucket

-- The dummy of the helper's bucket is linked at the helper's cursor. The helper then has this
-- dummy.
pub record LinksDummy (old new : Directory) (before after : Listing) (helper : ℕ) : Type 0 where
  pub bucket : ℕ
  pub cursor : Cursor
  pub place : ℕ
  pub had : helper_of old helper ≡ Some (Seeking bucket cursor)
  pub now : new ≡ with_helper old helper (Holding bucket place)
  pub links : LinksAt before after (pred_of cursor) bucket place

-- What changes when a helper links its dummy, for each result.
abbrev pub LinkChanges : Directory → Directory → Listing → Listing → ℕ
    → Result InitLink InitRefusal → Type 0
LinkChanges old new before after helper (Ok Again) = (new ≡ with_helper old helper Idle)
    × (after ≡ before)
LinkChanges old new before after helper (Ok Present) = HoldsDummy old new after helper
    × (after ≡ before)
LinkChanges old new before after helper (Ok Linked) = LinksDummy old new before after helper
LinkChanges old new before after helper (Err refusal) = (new ≡ old) × (after ≡ before)

-- The dummy that the helper had is stored as the dummy of the helper's bucket, and the helper is
-- idle.
pub record Stores (old new : Directory) (helper : ℕ) : Type 0 where
  pub bucket : ℕ
  pub place : ℕ
  pub had : helper_of old helper ≡ Some (Holding bucket place)
  pub now : new ≡ with_helper (with_dummy old bucket place) helper Idle

-- What changes when a helper stores its dummy, for each result.
abbrev pub StoreChanges : Directory → Directory → ℕ → Result Unit InitRefusal → Type 0
StoreChanges old new helper (Ok done) = Stores old new helper
StoreChanges old new helper (Err refusal) = new ≡ old

-- The buckets after `double` has given this answer.
abbrev pub after_double : Directory → Double → Directory
after_double d (Moved size) = d
after_double d AtLimit = d
after_double d Light = d
after_double d (Doubled size) = with_size d size
