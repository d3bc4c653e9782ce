-- A row of segments with 64 entries each, and the flat list of the entries of all segments.
use Rattle.std.specs.Prelude.{◌≡◌, ◌≢◌, ℕ, ◌+◌, ◌*◌, ◌/◌, ◌%◌, ◌<◌, ◌≤◌, ◌^◌, Bool, true, false, List, [], Option, Some, None, map, length, is_some, slice_index_or}
use Rattle.std.specs.List.{range_with_len}

-- The entries of a segment. A missing segment has none.
abbrev pub held_by : Option (List (Option ℕ)) → List (Option ℕ)
held_by None = []
held_by (Some segment) = segment

-- The entry of a bucket, at its place in its segment.
abbrev pub bucket_entry : List (Option (List (Option ℕ))) → ℕ → Option ℕ
bucket_entry row bucket =
    slice_index_or (held_by (slice_index_or row (bucket / 64) None)) (bucket % 64) None

-- The entries of the buckets below the limit.
abbrev pub bucket_entries : ℕ → List (Option (List (Option ℕ))) → List (Option ℕ)
bucket_entries limit row = map (bucket_entry row) (range_with_len 0 limit)

-- Whether a bucket is stored, given the entries of all buckets.
abbrev pub is_stored_in : List (Option ℕ) → ℕ → Bool
is_stored_in entries bucket = is_some (slice_index_or entries bucket None)

-- No bucket in the same segment as this bucket is stored.
abbrev pub LacksSegment : List (Option ℕ) → ℕ → Type 0
LacksSegment entries bucket =
    (other : ℕ) → other / 64 ≡ bucket / 64 → is_stored_in entries other ≡ false

-- A segment has 64 entries.
pub record IsSegment (entries : List (Option ℕ)) : Type 0 where
  pub width : length entries ≡ 64

-- The new segment has this dummy at this place. All its other entries are those of the old segment.
pub record Puts (old new : Option (List (Option ℕ))) (place dummy : ℕ) : Type 0 where
  pub segment : List (Option ℕ)
  pub there : new ≡ Some segment
  pub here : slice_index_or segment place None ≡ Some dummy
  pub elsewhere : (other : ℕ) → other ≢ place
      → slice_index_or segment other None ≡ slice_index_or (held_by old) other None

-- Some bucket of a segment is stored.
pub record HasStored (entries : List (Option ℕ)) (segment : ℕ) : Type 0 where
  pub bucket : ℕ
  pub of : bucket / 64 ≡ segment
  pub stored : is_stored_in entries bucket ≡ true

-- The row is just long enough for the limit, and has a segment only if one of the segment's buckets
-- is stored.
pub record IsRow (limit : ℕ) (row : List (Option (List (Option ℕ)))) : Type 0 where
  pub long : limit ≤ 64 * length row
  pub no_longer : 64 * length row < limit + 64
  pub fits : limit < 2 ^ 32
  pub used : (segment : ℕ) → is_some (slice_index_or row segment None) ≡ true
      → HasStored (bucket_entries limit row) segment
