-- PROMISES buckets: double_answer
-- The answer to each call on the buckets of a table. A `Table` of `map_ops` gives these answers
-- too.
use Rattle.std.specs.Prelude.{ℕ, ◌*◌, ◌-◌, ◌^◌, Bool, Option, Some, None, Result, Ok, Err, ◌==◌, not, nat_le, if◌then◌else◌}
use Rattle.node_list.specs.Nodes.{Listing}
use Rattle.split_key.specs.Split.{parent_of}
use Rattle.bucket_table.specs.declared.answer.InitSeek.{InitSeek}
use Rattle.bucket_table.specs.declared.answer.InitSeek.TheVariants.{Ready, Placed}
use Rattle.bucket_table.specs.declared.answer.InitLink.{InitLink}
use Rattle.bucket_table.specs.declared.answer.InitLink.TheVariants.{Again, Present, Linked}
use Rattle.bucket_table.specs.declared.answer.InitRefusal.{InitRefusal}
use Rattle.bucket_table.specs.declared.answer.InitRefusal.TheVariants.{NoSuchBucket, ParentMissing, NoSuchHelper, HelperOutOfOrder, StampsUsedUp}
use Rattle.bucket_table.specs.declared.answer.Double.{Double}
use Rattle.bucket_table.specs.declared.answer.Double.TheVariants.{Moved, AtLimit, Light, Doubled}
use Rattle.bucket_table.specs.Directory.{Directory, helper_of}
use Rattle.bucket_table.specs.Dummies.{has_dummy}
use Rattle.bucket_table.specs.Helpers.{Help, Nothing, Sought, Dummy, cursor_fits, help_at}

-- The answer when a helper seeks a bucket, given the size, the stored buckets and the helper's
-- state.
abbrev pub seek_answer : ℕ → (ℕ → Bool) → Option Help → ℕ → Result InitSeek InitRefusal
seek_answer size stored None bucket = Err NoSuchHelper
seek_answer size stored (Some help) bucket =
    if nat_le size bucket then Err NoSuchBucket
    else (if stored bucket then Ok Ready
    else (if stored (parent_of bucket) then Ok Placed
    else Err ParentMissing))

-- The answer when a helper links its dummy, unless it is `NoMemory`. The arguments are: whether the
-- helper's cursor fits; for each bucket, whether its dummy is linked; the last stamp; and the
-- helper's state.
abbrev pub link_answer : Bool → (ℕ → Bool) → ℕ → Option Help → Result InitLink InitRefusal
link_answer fitting linked last None = Err NoSuchHelper
link_answer fitting linked last (Some Nothing) = Err HelperOutOfOrder
link_answer fitting linked last (Some (Dummy bucket)) = Err HelperOutOfOrder
link_answer fitting linked last (Some (Sought bucket changes)) =
    if not fitting then Ok Again
    else (if linked bucket then Ok Present
    else (if last == 2 ^ 64 - 2 then Err StampsUsedUp
    else Ok Linked))

-- The answer when the helper with this number links its dummy, unless it is `NoMemory`.
abbrev pub link_answer_at : Directory → Listing → ℕ → Result InitLink InitRefusal
link_answer_at d l helper =
    link_answer (cursor_fits l (helper_of d helper)) (has_dummy l.nodes) l.last (help_at d helper)

-- The answer when a helper in this state stores its dummy, unless the answer is `NoMemory`.
abbrev pub store_answer : Option Help → Result Unit InitRefusal
store_answer None = Err NoSuchHelper
store_answer (Some Nothing) = Err HelperOutOfOrder
store_answer (Some (Sought bucket changes)) = Err HelperOutOfOrder
store_answer (Some (Dummy bucket)) = Ok tt

-- The answer of `double`, given the size, the largest size, the number of keys and the size that
-- the caller saw.
abbrev pub double_answer : ℕ → ℕ → ℕ → ℕ → Double
double_answer size largest count seen =
    if not (size == seen) then Moved size
    else (if size == largest then AtLimit
    else (if nat_le count (2 * size) then Light
    else Doubled (2 * size)))
