-- The table after a call on its buckets, as the machine's state describes it.
use Rattle.std.proofs.Common.{◌≡◌, ◌≢◌, ℕ, ◌+◌, ◌<◌, Bool, true, List, Option, Some, None, Ok, is_some, refl, ap, ◌∙◌, map, length, length-set, slice_get, slice_set, slice_index_or, option_map, get_or-set_other}
use Rattle.boost_core.proofs.Vocabulary.{slice_get-map, slice_get_within, range_with_len, map-set, Listing, out_at, found_fits, TableHelper, Idle, Seeking, Holding, Directory, limit_of, helper_of, with_helper, dummy_node, cursor_fits, Seeks, HoldsDummy, LinksDummy, Stores, Double, LinksNode, TableAt, Help, Nothing, Sought, Dummy, HasParents, KeepsList, KeepsSpares, cursor_in, helper_cursor, help_of, regular, size_of, largest_of, stored_of, linked_of, helps_of, table_changes, Doubles, helper_fits, seek_answer}
use Rattle.list_steps.specs.Content.{pairs}
use Rattle.bucket_table.specs.Dummies.{has_dummy}
use Rattle.bucket_table.specs.Links.{LinksAt}
use Rattle.map_ops.proofs.BucketLemmas.{linked_with}
use Rattle.boost_core.proofs.SideRefusals.{set_here}
use Rattle.map_ops.specs.Double.TheVariants as doubles
use Rattle.map_ops.specs.InitSeek.TheVariants as seeks

-- The new table has the given size, stored buckets, linked dummies and helpers. Its pairs, its
-- spares and its largest size are those of the old table.
pub record Becomes (old new : TableAt) (size : ℕ) (stored linked : List Bool) (helps : List Help) : Type 0 where
  pub regular : regular new ≡ regular old
  pub spares : KeepsSpares old new
  pub largest : largest_of new ≡ largest_of old
  pub size_is : size_of new ≡ size
  pub stored_is : stored_of new ≡ stored
  pub linked_is : linked_of new ≡ linked
  pub helps_is : helps_of new ≡ helps

-- The state of helper `h` in `helps_of` is the state that the table's buckets have for `h`.
pub help_is : (t : TableAt) (h : ℕ) (had : TableHelper) → helper_of t.buckets h ≡ Some had → slice_get (helps_of t) h ≡ Some (help_of had)
help_is t h had is = slice_get-map help_of t.buckets.helpers h ∙ ap (option_map help_of) is

-- A helper for which a seek placed a cursor is one of the table's helpers.
pub seeker_there : (t : TableAt) (h b : ℕ) → seek_answer (size_of t) (stored_of t) (slice_get (helps_of t) h) b ≡ Ok seeks.Placed
    → h < length t.buckets.helpers
seeker_there t h b placed = at (helper_of t.buckets h) refl
  where
    at : (o : Option TableHelper) → helper_of t.buckets h ≡ o → h < length t.buckets.helpers
    at None is = absurd (cc (rw (slice_get-map help_of t.buckets.helpers h, is) at placed))
    at (Some had) is = slice_get_within t.buckets.helpers h had is

-- Linking a dummy links one node, and this node has the next stamp.
pub links_node : (l l' : Listing) (pred bucket place : ℕ) → LinksAt l l' pred bucket place
    → LinksNode l l' (dummy_node place bucket (l.last + 1))
links_node l l' pred bucket place is = record {
  before = pred;
  linked = is.linked;
  writes = record { nodes = is.nodes; changes = is.changes };
}

module _ (t t' : TableAt) where
  -- If one helper changes, the other helpers keep their cursors.
  pub other_cursor : (h other : ℕ) (now : TableHelper) → t'.buckets.helpers ≡ slice_set t.buckets.helpers h now → other ≢ h
      → helper_cursor t' other ≡ helper_cursor t other
  other_cursor h other now is apart =
      ap (λ hs. slice_index_or (map cursor_in hs) other None) is
      ∙ ap (λ cs. slice_index_or cs other None) (map-set cursor_in t.buckets.helpers h now)
      ∙ get_or-set_other (map cursor_in t.buckets.helpers) h other (cursor_in now) None apart

  -- After a seek, the helper has the cursor that the seek placed, and the cursor fits.
  pub seeker_is : (h b : ℕ) (is : Seeks t.buckets t'.buckets t.list t'.list h b) → h < length t.buckets.helpers
      → helper_of t'.buckets h ≡ Some (Seeking b is.cursor)
  seeker_is h b is within = ap (λ d. helper_of d h) is.now ∙ set_here t.buckets.helpers h (Seeking b is.cursor) within

  pub seeker_fits : (h b : ℕ) → Seeks t.buckets t'.buckets t.list t'.list h b → h < length t.buckets.helpers → helper_fits t' h ≡ true
  seeker_fits h b is within = ap (cursor_fits t'.list) (seeker_is h b is within) ∙ found_fits t'.list is.cursor is.found

  -- The table after a call, if its buckets are now `d`.
  becomes : (d : Directory) (stored linked : List Bool) (helps : List Help) → t'.buckets ≡ d
      → regular t' ≡ regular t → KeepsSpares t t' → linked_of t' ≡ linked
      → limit_of d ≡ largest_of t → map is_some d.entries ≡ stored → map help_of d.helpers ≡ helps → Becomes t t' d.size stored linked helps
  becomes d stored linked helps is same spares dummies limit entries helpers = record {
    regular = same;
    spares = spares;
    largest = ap (λ d. limit_of d) is ∙ limit;
    size_is = ap (λ d. d.size) is;
    stored_is = ap (λ d. map is_some d.entries) is ∙ entries;
    linked_is = dummies;
    helps_is = ap (λ d. map help_of d.helpers) is ∙ helpers;
  }

  -- The table after a call, if its buckets are now `d` and its list is unchanged.
  quiet : (d : Directory) (stored : List Bool) (helps : List Help) → t'.buckets ≡ d → KeepsList t t'
      → limit_of d ≡ largest_of t → map is_some d.entries ≡ stored → map help_of d.helpers ≡ helps
      → Becomes t t' d.size stored (linked_of t) helps
  quiet d stored helps is list limit entries helpers =
      becomes d stored (linked_of t) helps is (ap (λ l. pairs l.nodes) list) (λ place. ap (λ l. out_at l place) list)
      (λ i. map (has_dummy (list i).nodes) (range_with_len 0 ((ap (λ d. limit_of d) is ∙ limit) i))) limit entries helpers

  -- The table after a helper becomes idle. The next lemmas describe the table after the other
  -- outcomes of a call: a helper gets a cursor, gets a dummy that was already linked, links a dummy
  -- or stores a bucket, or a doubling ends.
  pub idle_becomes : (h : ℕ) → t'.buckets ≡ with_helper t.buckets h Idle → KeepsList t t'
      → Becomes t t' (size_of t) (stored_of t) (linked_of t) (slice_set (helps_of t) h Nothing)
  idle_becomes h is list = quiet _ _ _ is list refl refl (map-set help_of t.buckets.helpers h Idle)

  pub sought_becomes : (h b : ℕ) → Seeks t.buckets t'.buckets t.list t'.list h b → regular t' ≡ regular t → linked_of t' ≡ linked_of t
      → Becomes t t' (size_of t) (stored_of t) (linked_of t) (slice_set (helps_of t) h (Sought b (table_changes t')))
  sought_becomes h b is same linked =
      becomes _ _ _ _ is.now same is.rest.out linked refl refl
      (map-set help_of t.buckets.helpers h (Seeking b is.cursor) ∙ ap (λ (n : ℕ). slice_set (helps_of t) h (Sought b n)) is.found.changes)

  pub held_becomes : (h : ℕ) (holds : HoldsDummy t.buckets t'.buckets t'.list h) → KeepsList t t'
      → Becomes t t' (size_of t) (stored_of t) (linked_of t) (slice_set (helps_of t) h (Dummy holds.bucket))
  held_becomes h holds list = quiet _ _ _ holds.now list refl refl (map-set help_of t.buckets.helpers h (Holding holds.bucket holds.place))

  pub linked_becomes : (h : ℕ) → HasParents t → (links : LinksDummy t.buckets t'.buckets t.list t'.list h) → regular t' ≡ regular t
      → Becomes t t' (size_of t) (stored_of t) (slice_set (linked_of t) links.bucket true) (slice_set (helps_of t) h (Dummy links.bucket))
  linked_becomes h parents links same =
      becomes _ _ _ _ links.now same links.links.out (linked_with t t' h parents links) refl refl
      (map-set help_of t.buckets.helpers h (Holding links.bucket links.place))

  pub stored_becomes : (h : ℕ) (stores : Stores t.buckets t'.buckets h) → KeepsList t t'
      → Becomes t t' (size_of t) (slice_set (stored_of t) stores.bucket true) (linked_of t) (slice_set (helps_of t) h Nothing)
  stored_becomes h stores list =
      quiet _ _ _ stores.now list (length-set t.buckets.entries stores.bucket (Some stores.place))
      (map-set is_some t.buckets.entries stores.bucket (Some stores.place)) (map-set help_of t.buckets.helpers h Idle)

  -- The size after a call that may double the size.
  abbrev doubled_size : Double → ℕ
  doubled_size (doubles.Doubled n) = n
  doubled_size _ = size_of t

  pub doubled_becomes : (outcome : Double) → Doubles t t' outcome → KeepsList t t'
      → Becomes t t' (doubled_size outcome) (stored_of t) (linked_of t) (helps_of t)
  doubled_becomes (doubles.Moved n) is list = quiet _ _ _ is list refl refl refl
  doubled_becomes _ is list = quiet _ _ _ is list refl refl refl

  pub doubled_helpers : (outcome : Double) → Doubles t t' outcome → t'.buckets.helpers ≡ t.buckets.helpers
  doubled_helpers (doubles.Moved n) is = ap (λ d. d.helpers) is
  doubled_helpers _ is = ap (λ d. d.helpers) is
