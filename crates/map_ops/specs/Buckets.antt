-- PROMISES buckets: seek_answer, link_answer
-- The answer and the changes of each call on the buckets of a table.
use Rattle.std.specs.Prelude.{◌≡◌, ℕ, ◌/◌, Bool, false, Option, Result, Ok, Err, List, slice_index_or}
use Rattle.map_ops.specs.Vocabulary.{HelperOutOfOrder, InitLink, InitRefusal, InitSeek, NoMemory, NoSuchBucket, NoSuchHelper, ParentMissing}
use Rattle.map_ops.specs.Vocabulary.{Refusal, StampsUsedUp, slice_get}
pub use Rattle.split_key.specs.Split.{parent_of}
pub use Rattle.bucket_table.specs.Answers.{double_answer}
use Rattle.bucket_table.specs.Answers as buckets
use Rattle.bucket_table.specs.Changes as parts
use Rattle.bucket_table.specs.declared.answer.Double.{Double}
use Rattle.txn_words.specs.declared.refusal.Refusal.TheVariants as refusals
use Rattle.map_ops.specs.TableAt.{TableAt, Help, last_of, linked_of, helps_of}
pub use Rattle.map_ops.specs.TableAt.{helper_fits}

-- True if this bucket is stored. The list has a Boolean for each bucket: `true` if that bucket is
-- stored.
abbrev pub is_stored : List Bool → ℕ → Bool
is_stored stored bucket = slice_index_or stored bucket false

-- No bucket in this bucket's segment is stored. A segment is 64 consecutive buckets.
abbrev pub LacksSegment : List Bool → ℕ → Type 0
LacksSegment stored bucket =
    (other : ℕ) → other / 64 ≡ bucket / 64 → is_stored stored other ≡ false

-- Converts the refusal of a call on buckets to the step's refusal that has the same name.
abbrev pub refusal_for : InitRefusal → Refusal
refusal_for NoSuchBucket = refusals.NoSuchBucket
refusal_for ParentMissing = refusals.ParentMissing
refusal_for NoSuchHelper = refusals.NoSuchHelper
refusal_for HelperOutOfOrder = refusals.HelperOutOfOrder
refusal_for NoMemory = refusals.NoMemory
refusal_for StampsUsedUp = refusals.StampsUsedUp

-- Converts the answer of a call on buckets to the answer of a step.
abbrev pub answer_for : {A : Type 0} → Result A InitRefusal → Result A Refusal
answer_for (Ok done) = Ok done
answer_for (Err refusal) = Err (refusal_for refusal)

-- The answer when a helper seeks a bucket, given the size, the stored buckets and the helper's
-- state.
abbrev pub seek_answer : ℕ → List Bool → Option Help → ℕ → Result InitSeek Refusal
seek_answer size stored help bucket =
    answer_for (buckets.seek_answer size (is_stored stored) help bucket)

-- The answer when a helper links its dummy and no memory is refused. It depends on whether the
-- helper's cursor fits, on which dummies are linked, on the last stamp and on the helper's state.
abbrev pub link_answer : Bool → List Bool → ℕ → Option Help → Result InitLink Refusal
link_answer fitting linked last help =
    answer_for (buckets.link_answer fitting (is_stored linked) last help)

-- What the table answers, if no memory is refused, when the helper with this number links its
-- dummy.
abbrev pub link_answer_of : TableAt → ℕ → Result InitLink Refusal
link_answer_of t helper =
    link_answer (helper_fits t helper) (linked_of t) (last_of t) (slice_get (helps_of t) helper)

-- The answer when a helper in this state stores its dummy and no memory is refused.
abbrev pub store_answer : Option Help → Result Unit Refusal
store_answer help = answer_for (buckets.store_answer help)

-- What changes in the table's buckets and list when a helper seeks a bucket. Here and in the
-- definitions below, a refusal leaves the table unchanged.
abbrev pub SeekChanges : TableAt → TableAt → ℕ → ℕ → Result InitSeek Refusal → Type 0
SeekChanges old new helper bucket (Ok done) =
    parts.SeekChanges old.buckets new.buckets old.list new.list helper bucket (Ok done)
SeekChanges old new helper bucket (Err refusal) = new ≡ old

-- What changes when a helper links its dummy.
abbrev pub LinkChanges : TableAt → TableAt → ℕ → Result InitLink Refusal → Type 0
LinkChanges old new helper (Ok done) =
    parts.LinkChanges old.buckets new.buckets old.list new.list helper (Ok done)
LinkChanges old new helper (Err refusal) = new ≡ old

-- What changes when a helper stores its dummy. The list is unchanged.
abbrev pub StoreChanges : TableAt → TableAt → ℕ → Result Unit Refusal → Type 0
StoreChanges old new helper (Ok done) = parts.Stores old.buckets new.buckets helper
StoreChanges old new helper (Err refusal) = new ≡ old

-- What changes when `double` gives this answer. The list is unchanged.
abbrev pub Doubles : TableAt → TableAt → Double → Type 0
Doubles old new answer = new.buckets ≡ parts.after_double old.buckets answer
