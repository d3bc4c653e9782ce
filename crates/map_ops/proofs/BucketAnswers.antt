-- The answers to the calls on the buckets of a table.
use Rattle.std.proofs.Common.{◌≡◌, ℕ, ◌-◌, ◌<◌, ◌^◌, ◌==◌, List, Option, Some, None, Bool, true, false, map, refl, sym, ◌∙◌, ap, arith}
use Rattle.std.proofs.Common.{slice_index_or, if◌then◌else◌}
use Rattle.std.specs.Prelude.{Result, Ok, Err, is_some}
use Rattle.map_ops.specs.Vocabulary.{Again, Directory, Helper, HelperOutOfOrder, Holding, Idle, InitLink, InitRefusal, IsHome}
use Rattle.map_ops.specs.Vocabulary.{Linked, Listing, NoMemory, NoSuchBucket, NoSuchHelper, NodeAt, ParentMissing, Present, Refusal}
use Rattle.map_ops.specs.Vocabulary.{Seeking, StampsUsedUp, cursor_fits, has_dummy, helper_of, limit_of, range_with_len, slice_get}
use Rattle.map_ops.proofs.Vocabulary.{slice_get-map}
use Rattle.std.specs.Option.{option_map}
use Rattle.std.proofs.lemmas.List.FromFn.{get_or-map-range_with_len}
use Rattle.std.proofs.Math.ListN as lists
use Rattle.list_steps.specs.Found.{change_number_of}
use Rattle.txn_words.specs.declared.refusal.Refusal.TheVariants as refusals
use Rattle.bucket_table.specs.Directory.{IsReadyHelper}
use Rattle.bucket_table.specs.Directory as directories
use Rattle.bucket_table.specs.Answers as buckets
use Rattle.bucket_table.specs.Segments as segments
use Rattle.bucket_table.specs.Home.{IsHelperHome}
use Rattle.bucket_table.proofs.DirectoryLemmas.{helper_found}
use Rattle.bucket_table.specs.Helpers.{help_at}
use Rattle.map_ops.specs.TableAt.{Help, Nothing, Sought, Dummy, help_of, linked_of, table_of}
use Rattle.map_ops.specs.Buckets.{LacksSegment, answer_for, helper_fits, seek_answer, link_answer, store_answer}

pub stored_at : (entries : List (Option ℕ)) (bucket : ℕ) → slice_index_or (map is_some entries) bucket false ≡ is_some (slice_index_or entries bucket None)
stored_at entries bucket = lists.get_or-map is_some entries bucket None

pub lacks_segment : (entries : List (Option ℕ)) (bucket : ℕ) → segments.LacksSegment entries bucket → LacksSegment (map is_some entries) bucket
lacks_segment entries bucket lacks other same = stored_at entries other ∙ lacks other same

-- The table's `seek_answer` equals the answer of its buckets, converted by `answer_for`.
pub seek_answers : (d : Directory) (helper bucket : ℕ) → answer_for (buckets.seek_answer d.size (directories.is_stored d) (help_at d helper) bucket) ≡ seek_answer d.size (map is_some d.entries) (slice_get (map help_of d.helpers) helper) bucket
seek_answers d helper bucket = λ i. answer_for (buckets.seek_answer d.size (λ b. sym (stored_at d.entries b) i) (sym (slice_get-map help_of d.helpers helper) i) bucket)

-- Reading a helper's state from the buckets or from the table gives the same `store_answer`.
pub store_answers : (d : Directory) (helper : ℕ) → store_answer (help_at d helper) ≡ store_answer (slice_get (map help_of d.helpers) helper)
store_answers d helper = ap store_answer (sym (slice_get-map help_of d.helpers helper))

pub linked_at : (nodes : List NodeAt) (limit bucket : ℕ) → bucket < limit → slice_index_or (map (has_dummy nodes) (range_with_len 0 limit)) bucket false ≡ has_dummy nodes bucket
linked_at nodes limit bucket within = get_or-map-range_with_len (has_dummy nodes) 0 limit bucket bucket false within (omega arith)

pub within_limit : (d : Directory) (helper bucket : ℕ) (had : Helper) → directories.IsSound d → helper_of d helper ≡ Some had → (IsReadyHelper d had → bucket < d.size) → bucket < limit_of d
within_limit d helper bucket had sound is below = let order = helper_found (IsReadyHelper d) d.helpers helper had sound.helpers is in let small : bucket < d.size = below order in omega (arith, small, sound.most)

-- The table's `link_answer` equals the answer of its buckets, converted by `answer_for`.
pub link_answers : (l : Listing) (d : Directory) (helper : ℕ) → directories.IsSound d → answer_for (buckets.link_answer_at d l helper) ≡ link_answer (helper_fits (table_of l d) helper) (linked_of (table_of l d)) l.last (slice_get (map help_of d.helpers) helper)
link_answers l d helper sound =
    go (helper_of d helper) refl ∙ ap (link_answer (helper_fits (table_of l d) helper) (linked_of (table_of l d)) l.last) (sym (slice_get-map help_of d.helpers helper))
  where
    go : (o : Option Helper) → helper_of d helper ≡ o → answer_for (buckets.link_answer (cursor_fits l (helper_of d helper)) (has_dummy l.nodes) l.last (option_map help_of o)) ≡ link_answer (helper_fits (table_of l d) helper) (linked_of (table_of l d)) l.last (option_map help_of o)
    go None is = refl
    go (Some Idle) is = refl
    go (Some (Holding bucket dummy)) is = refl
    go (Some (Seeking bucket cursor)) is =
        let within : bucket < limit_of d = within_limit d helper bucket (Seeking bucket cursor) sound is (λ order. order.within) in
        ap (λ (there : Bool). answer_for (buckets.link_answer (cursor_fits l (helper_of d helper)) (λ b. there) l.last (Some (Sought bucket (change_number_of cursor))))) (sym (linked_at l.nodes (limit_of d) bucket within))

-- If the change number is below 2^64 - 1 and is the one that the helper's cursor noted, the cursor
-- fits.
pub helper_still_fits : (l : Listing) (d : Directory) (helper bucket : ℕ) → IsHome d l → slice_get (map help_of d.helpers) helper ≡ Some (Sought bucket l.changes) → l.changes < 2 ^ 64 - 1 → helper_fits (table_of l d) helper ≡ true
helper_still_fits l d helper bucket home had below = go (helper_of d helper) refl (sym (slice_get-map help_of d.helpers helper) ∙ had)
  where
    go : (o : Option Helper) → helper_of d helper ≡ o → option_map help_of (helper_of d helper) ≡ Some (Sought bucket l.changes) → helper_fits (table_of l d) helper ≡ true
    go None is sought = let clash : None ≡ Some (Sought bucket l.changes) = sym (ap (option_map help_of) is) ∙ sought in absurd (cc)
    go (Some Idle) is sought = let clash : Some Nothing ≡ Some (Sought bucket l.changes) = sym (ap (option_map help_of) is) ∙ sought in absurd (cc)
    go (Some (Holding other dummy)) is sought = let clash : Some (Dummy other) ≡ Some (Sought bucket l.changes) = sym (ap (option_map help_of) is) ∙ sought in absurd (cc)
    go (Some (Seeking other cursor)) is sought =
        let both : Some (Sought other (change_number_of cursor)) ≡ Some (Sought bucket l.changes) = sym (ap (option_map help_of) is) ∙ sought in
        let same : l.changes ≡ change_number_of cursor = cc in
        let placed = helper_found (IsHelperHome l) d.helpers helper (Seeking other cursor) home.helpers is in
        ap (cursor_fits l) is ∙ placed.0.held same below

not_again : (there used : Bool) → ◌≡◌ {A = Result InitLink Refusal} (answer_for (if there then Ok Present else (if used then Err StampsUsedUp else Ok Linked))) (Ok Again) → ⊥
not_again true used is = cc
not_again false true is = cc
not_again false false is = cc

-- If the helper has a cursor and this cursor fits, `link_answer` is not `Again`.
pub fits_not_again : (fitting : Bool) (linked : List Bool) (last bucket changes : ℕ) (help : Option Help) → help ≡ Some (Sought bucket changes) → fitting ≡ true → link_answer fitting linked last help ≡ Ok Again → ⊥
fits_not_again fitting linked last bucket changes help is fit again =
    not_again (slice_index_or linked bucket false) (last == 2 ^ 64 - 2)
    (ap (λ (b : Bool). link_answer b linked last (Some (Sought bucket changes))) (sym fit) ∙ ap (λ (o : Option Help). link_answer fitting linked last o) (sym is) ∙ again)

-- If the table's step answers `NoMemory`, the call on the buckets answered `NoMemory`.
pub no_memory_alone : {A : Type 0} (result : Result A InitRefusal) → answer_for result ≡ Err refusals.NoMemory → result ≡ Err NoMemory
no_memory_alone (Ok done) is = absurd (cc is)
no_memory_alone (Err NoMemory) is = refl
no_memory_alone (Err NoSuchBucket) is = absurd (cc is)
no_memory_alone (Err ParentMissing) is = absurd (cc is)
no_memory_alone (Err NoSuchHelper) is = absurd (cc is)
no_memory_alone (Err HelperOutOfOrder) is = absurd (cc is)
no_memory_alone (Err StampsUsedUp) is = absurd (cc is)
