-- The changes that calls on the buckets make to a table.
use Rattle.std.proofs.Common.{◌≡◌, ℕ, ◌+◌, ◌<◌, ◌≤◌, ◌^◌, ◌==◌, ◌||◌, inl, inr, List, true, false, map, length, sym, ◌∙◌, ap, subst, arith}
use Rattle.std.proofs.Common.{get_or, slice_set}
use Rattle.std.specs.Prelude.{Result, Ok, Err}
use Rattle.map_ops.specs.Vocabulary.{Again, Directory, InitLink, InitRefusal, InitSeek, Linked, Listing, NodeAt, Present, Seeking, dummy_at}
use Rattle.map_ops.specs.Vocabulary.{has_dummy, limit_of, pred_of, range_with_len}
use Rattle.map_ops.proofs.Vocabulary.{cases_eq, each_linked, eq-eqb, ne_eqb, reversed_even}
use Rattle.std.proofs.lemmas.List.{length-set, ext_get_or, get_or-set_same, get_or-set_other}
use Rattle.std.proofs.lemmas.List.FromFn.{length-map-range_with_len}
use Rattle.bucket_table.specs.declared.answer.InitSeek.TheVariants.{Ready, Placed}
use Rattle.bucket_table.specs.Directory as directories
use Rattle.bucket_table.specs.Changes as parts
use Rattle.bucket_table.specs.Dummies.{dummy_node}
use Rattle.list_steps.proofs.SeekLemmas.{each_sought}
use Rattle.map_ops.specs.Sound.{AllEven, IsEvenDummy}
use Rattle.map_ops.specs.TableAt.{TableAt, HasParents, linked_of, table_of}
use Rattle.map_ops.specs.Buckets.{SeekChanges, LinkChanges, StoreChanges, answer_for}
use Rattle.map_ops.proofs.BelongLemmas.{linked_same}
use Rattle.map_ops.proofs.BucketAnswers.{linked_at, within_limit}

-- If a seek changes the buckets and the list as `parts.SeekChanges` says, the table changes as
-- `SeekChanges` says. The same holds for `LinkChanges` and for `StoreChanges`.
pub seek_changes : (before after : Listing) (old new : Directory) (helper bucket : ℕ) (result : Result InitSeek InitRefusal)
    → parts.SeekChanges old new before after helper bucket result
    → SeekChanges (table_of before old) (table_of after new) helper bucket (answer_for result)
seek_changes before after old new helper bucket (Ok done) changes = changes
seek_changes before after old new helper bucket (Err refusal) changes = λ i. table_of (changes.1 i) (changes.0 i)

pub link_changes : (before after : Listing) (old new : Directory) (helper : ℕ) (result : Result InitLink InitRefusal)
    → parts.LinkChanges old new before after helper result
    → LinkChanges (table_of before old) (table_of after new) helper (answer_for result)
link_changes before after old new helper (Ok done) changes = changes
link_changes before after old new helper (Err refusal) changes = λ i. table_of (changes.1 i) (changes.0 i)

pub store_changes : (list : Listing) (old new : Directory) (helper : ℕ) (result : Result Unit InitRefusal)
    → parts.StoreChanges old new helper result → StoreChanges (table_of list old) (table_of list new) helper (answer_for result)
store_changes list old new helper (Ok done) stores = stores
store_changes list old new helper (Err refusal) same = ap (table_of list) same

-- A seek for a bucket unlinks no dummy.
pub seek_linked : (before after : Listing) (old new : Directory) (helper bucket : ℕ) (result : Result InitSeek InitRefusal)
    → parts.SeekChanges old new before after helper bucket result
    → ((other : ℕ) → has_dummy after.nodes other ≡ has_dummy before.nodes other)
    → linked_of (table_of after new) ≡ linked_of (table_of before old)
seek_linked before after old new helper bucket result changes dummies =
    ap (λ (n : ℕ). map (has_dummy after.nodes) (range_with_len 0 n)) (limit result changes) ∙ linked_same before after old dummies
  where
    limit : (result : Result InitSeek InitRefusal) → parts.SeekChanges old new before after helper bucket result
        → limit_of new ≡ limit_of old
    limit (Ok Ready) changes = ap (λ (d : Directory). limit_of d) changes.0
    limit (Ok Placed) seeks = ap (λ (d : Directory). limit_of d) seeks.now
    limit (Err refusal) changes = ap (λ (d : Directory). limit_of d) changes.0

-- If one more dummy is linked, the list of linked dummies changes only at that dummy's bucket, to
-- `true`.
linked_more : (before after : List NodeAt) (limit bucket : ℕ) → bucket < limit → limit ≤ 2 ^ 32 → ((other : ℕ) → other < 2 ^ 32 → has_dummy after other ≡ ((bucket == other) || has_dummy before other))
    → map (has_dummy after) (range_with_len 0 limit) ≡ slice_set (map (has_dummy before) (range_with_len 0 limit)) bucket true
linked_more before after limit bucket within small more =
    ext_get_or false _ _ (after_length ∙ sym before_length ∙ sym (length-set (map (has_dummy before) (range_with_len 0 limit)) bucket true)) each
  where
    after_length : length (map (has_dummy after) (range_with_len 0 limit)) ≡ limit
    after_length = length-map-range_with_len (has_dummy after) 0 limit

    before_length : length (map (has_dummy before) (range_with_len 0 limit)) ≡ limit
    before_length = length-map-range_with_len (has_dummy before) 0 limit

    each : (i : ℕ) → i < length (map (has_dummy after) (range_with_len 0 limit)) → get_or (map (has_dummy after) (range_with_len 0 limit)) i false ≡ get_or (slice_set (map (has_dummy before) (range_with_len 0 limit)) bucket true) i false
    each i below =
        let inside : i < limit = omega (arith, below, after_length) in
        linked_at after limit i inside ∙ more i (omega (arith, inside, small)) ∙ elim (cases_eq bucket i) [
          | inl same ↦ ap (λ b. b || has_dummy before i) (eq-eqb bucket i same)
              ∙ sym (ap (λ (k : ℕ). get_or (slice_set (map (has_dummy before) (range_with_len 0 limit)) bucket true) k false) (sym same) ∙ get_or-set_same (map (has_dummy before) (range_with_len 0 limit)) bucket true false (omega (arith, within, before_length)))
          | inr other ↦ ap (λ b. b || has_dummy before i) (ne_eqb bucket i other) ∙ sym (linked_at before limit i inside)
              ∙ sym (get_or-set_other (map (has_dummy before) (range_with_len 0 limit)) bucket i true false (λ same. other (sym same)))
        ]

-- If a helper has linked its bucket's dummy, `linked_of` changes only at that bucket, to `true`.
pub linked_with : (old new : TableAt) (helper : ℕ) → HasParents old
    → (links : parts.LinksDummy old.buckets new.buckets old.list new.list helper)
    → linked_of new ≡ slice_set (linked_of old) links.bucket true
linked_with old new helper sound links =
    let within : links.bucket < limit_of old.buckets =
    within_limit old.buckets helper links.bucket (Seeking links.bucket links.cursor) sound links.had (λ order. order.within) in
    ap (λ (d : Directory). map (has_dummy new.list.nodes) (range_with_len 0 (limit_of d))) links.now
    ∙ linked_more old.list.nodes new.list.nodes (limit_of old.buckets) links.bucket within (omega (arith, sound.fits)) links.links.dummies

-- After a helper seeks a bucket or links its dummy, the split key of each dummy is still even.
pub seek_even : (before after : Listing) (old new : Directory) (helper bucket : ℕ) (result : Result InitSeek InitRefusal) → parts.SeekChanges old new before after helper bucket result → AllEven before.nodes → AllEven after.nodes
seek_even before after old new helper bucket (Ok Ready) changes even = subst (λ (l : Listing). AllEven l.nodes) (sym changes.1) even
seek_even before after old new helper bucket (Ok Placed) seeks even = subst AllEven (sym seeks.nodes) (each_sought IsEvenDummy before.nodes seeks.from (dummy_at bucket) even)
seek_even before after old new helper bucket (Err refusal) changes even = subst (λ (l : Listing). AllEven l.nodes) (sym changes.1) even

pub link_even : (before after : Listing) (old new : Directory) (helper : ℕ) (result : Result InitLink InitRefusal) → directories.IsSound old → parts.LinkChanges old new before after helper result → AllEven before.nodes → AllEven after.nodes
link_even before after old new helper (Ok Again) sound changes even = subst (λ (l : Listing). AllEven l.nodes) (sym changes.1) even
link_even before after old new helper (Ok Present) sound changes even = subst (λ (l : Listing). AllEven l.nodes) (sym changes.1) even
link_even before after old new helper (Ok Linked) sound links even =
    let within : links.bucket < limit_of old = within_limit old helper links.bucket (Seeking links.bucket links.cursor) sound links.had (λ order. order.within) in
    subst AllEven (sym links.links.nodes) (each_linked IsEvenDummy before.nodes (pred_of links.cursor) (dummy_node links.place links.bucket (before.last + 1)) (λ dummy. reversed_even links.bucket (omega (arith, within, sound.fits))) even)
link_even before after old new helper (Err refusal) sound changes even = subst (λ (l : Listing). AllEven l.nodes) (sym changes.1) even
