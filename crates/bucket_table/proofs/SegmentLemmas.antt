-- Shows that a row of segments is a flat list of entries, of which a store changes one, because two
-- buckets with the same segment and the same place in it are equal.
use Prim.Native.Nat.{zero, suc}
use Rattle.std.proofs.Common.{◌+◌, ◌≡◌, ◌≢◌, ℕ, ◌*◌, ◌/◌, ◌%◌, ◌^◌, ◌<◌, ◌≤◌, ◌⊎◌, inl, inr, List, Option, Some, None, true, false, replicate, is_some, length, refl, sym, ◌∙◌, ap, subst, arith, get_or, length-set, slice_index_or, slice_set}
use Rattle.std.specs.Prelude.{Result, Ok, Err, IfOk, OnErr}
use Rattle.std.proofs.lemmas.Bool.{cases_eq, cases_lt}
use Rattle.std.proofs.lemmas.List.{ext_get_or, get_or_past, get_or_read, get_or-set_same, get_or-set_other, set-get_or, length-replicate}
use Rattle.std.proofs.lemmas.List.FromFn.{get_or-map-range_with_len, length-map-range_with_len}
use Rattle.bucket_table.specs.Segments.{HasStored, IsRow, Puts, LacksSegment, bucket_entries, bucket_entry, held_by, is_stored_in}

-- Lemmas on the entries of a row.
pub entries_length : (limit : ℕ) (row : List (Option (List (Option ℕ)))) → length (bucket_entries limit row) ≡ limit
entries_length limit row = length-map-range_with_len (bucket_entry row) 0 limit

pub entry_at : (limit : ℕ) (row : List (Option (List (Option ℕ)))) (bucket : ℕ) → bucket < limit → slice_index_or (bucket_entries limit row) bucket None ≡ bucket_entry row bucket
entry_at limit row bucket within = get_or-map-range_with_len (bucket_entry row) 0 limit bucket bucket None within (omega arith)

pub entry_past : (limit : ℕ) (row : List (Option (List (Option ℕ)))) (bucket : ℕ) → limit ≤ bucket → slice_index_or (bucket_entries limit row) bucket None ≡ None
entry_past limit row bucket beyond = get_or_past (bucket_entries limit row) bucket None (omega (arith, entries_length limit row, beyond))

-- A bucket that has an entry is below the limit.
pub within_limit : (limit : ℕ) (row : List (Option (List (Option ℕ)))) (bucket : ℕ) (entries : List (Option ℕ)) → bucket_entries limit row ≡ entries → bucket < length entries → bucket < limit
within_limit limit row bucket entries is below = let same = ap length is in omega (arith, same, entries_length limit row, below)

-- The row has a place for the segment of each bucket below the limit.
pub segment_within : (limit bucket long : ℕ) → bucket < limit → limit ≤ 64 * long → bucket / 64 < long
segment_within limit bucket long within fits = omega (arith, within, fits)

-- Two buckets with the same segment and the same place in it are equal.
same_bucket : (one other : ℕ) → one / 64 ≡ other / 64 → one % 64 ≡ other % 64 → one ≡ other
same_bucket one other segment place = omega (arith, segment, place)

-- The bucket's old segment is replaced by `segment`. The two segments differ only in the bucket's
-- entry, which is now `dummy`. So the flat list, too, changes only in this entry.
module _ (limit : ℕ) (row : List (Option (List (Option ℕ)))) (bucket : ℕ) (segment : List (Option ℕ)) (dummy : ℕ) (within : bucket < limit) (long : limit ≤ 64 * length row) (here : slice_index_or segment (bucket % 64) None ≡ Some dummy)
    (others : (place : ℕ) → place ≢ bucket % 64 → slice_index_or segment place None ≡ slice_index_or (held_by (slice_index_or row (bucket / 64) None)) place None) where
  abbrev changed : List (Option (List (Option ℕ)))
  changed = slice_set row (bucket / 64) (Some segment)

  there : bucket / 64 < length row
  there = segment_within limit bucket (length row) within long

  own : slice_index_or changed (bucket / 64) None ≡ Some segment
  own = get_or-set_same row (bucket / 64) (Some segment) None there

  entry : (other : ℕ) → bucket_entry changed other ≡ slice_index_or (slice_set (bucket_entries limit row) bucket (Some dummy)) other None ⊎ (limit ≤ other)
  entry other = elim (cases_lt other limit) [
    | inr beyond ↦ inr beyond
    | inl inside ↦ inl (elim (cases_eq other bucket) [
      | inl same ↦ ap (bucket_entry changed) same ∙ ap (λ (o : Option (List (Option ℕ))). slice_index_or (held_by o) (bucket % 64) None) own ∙ here
          ∙ sym (ap (λ (k : ℕ). slice_index_or (slice_set (bucket_entries limit row) bucket (Some dummy)) k None) same ∙ get_or-set_same (bucket_entries limit row) bucket (Some dummy) None (omega (arith, within, entries_length limit row)))
      | inr apart ↦ kept other apart ∙ sym (get_or-set_other (bucket_entries limit row) bucket other (Some dummy) None apart ∙ entry_at limit row other inside)
    ])
  ]
    where
      kept : (other : ℕ) → other ≢ bucket → bucket_entry changed other ≡ bucket_entry row other
      kept other apart = elim (cases_eq (other / 64) (bucket / 64)) [
        | inl same ↦ ap (λ (k : ℕ). slice_index_or (held_by (slice_index_or changed k None)) (other % 64) None) same
            ∙ ap (λ (o : Option (List (Option ℕ))). slice_index_or (held_by o) (other % 64) None) own
            ∙ others (other % 64) (λ place. apart (same_bucket other bucket same place))
            ∙ ap (λ (k : ℕ). slice_index_or (held_by (slice_index_or row k None)) (other % 64) None) (sym same)
        | inr else ↦ ap (λ (o : Option (List (Option ℕ))). slice_index_or (held_by o) (other % 64) None) (get_or-set_other row (bucket / 64) (other / 64) (Some segment) None else)
      ]

  pub entries_set : bucket_entries limit changed ≡ slice_set (bucket_entries limit row) bucket (Some dummy)
  entries_set =
      ext_get_or None _ _ (entries_length limit changed ∙ sym (entries_length limit row) ∙ sym (length-set (bucket_entries limit row) bucket (Some dummy))) each
    where
      each : (i : ℕ) → i < length (bucket_entries limit changed) → get_or (bucket_entries limit changed) i None ≡ get_or (slice_set (bucket_entries limit row) bucket (Some dummy)) i None
      each i below =
          let inside : i < limit = omega (arith, below, entries_length limit changed) in
          elim (entry i) [
            | inl is ↦ entry_at limit changed i inside ∙ is
            | inr beyond ↦ absurd (omega (arith, inside, beyond))
          ]

  -- The changed row is still just long enough, and has no segment without a stored bucket.
  pub row_set : IsRow limit row → IsRow limit changed
  row_set is = record {
    long = let same = length-set row (bucket / 64) (Some segment) in omega (arith, same, long);
    no_longer = let same = length-set row (bucket / 64) (Some segment) in omega (arith, same, is.no_longer);
    fits = is.fits;
    used = used;
  }
    where
      stored : (other : ℕ) → is_stored_in (slice_set (bucket_entries limit row) bucket (Some dummy)) other ≡ true → is_stored_in (bucket_entries limit changed) other ≡ true
      stored other is = ap (λ (entries : List (Option ℕ)). is_stored_in entries other) entries_set ∙ is

      used_now : (at : ℕ) → (at ≡ bucket / 64) ⊎ (at ≢ bucket / 64) → is_some (slice_index_or changed at None) ≡ true → HasStored (bucket_entries limit changed) at
      used_now at (inl same) there_is = record {
        bucket = bucket;
        of = sym same;
        stored = stored bucket (ap is_some (get_or-set_same (bucket_entries limit row) bucket (Some dummy) None (omega (arith, within, entries_length limit row))));
      }
      used_now at (inr apart) there_is =
          let old = is.used at (sym (ap is_some (get_or-set_other row (bucket / 64) at (Some segment) None apart)) ∙ there_is) in
          record {
            bucket = old.bucket;
            of = old.of;
            stored = stored old.bucket (ap is_some (get_or-set_other (bucket_entries limit row) bucket old.bucket (Some dummy) None (λ same. apart (sym old.of ∙ ap (λ n. n / 64) same))) ∙ old.stored);
          }

      used : (at : ℕ) → is_some (slice_index_or changed at None) ≡ true → HasStored (bucket_entries limit changed) at
      used at = used_now at (cases_eq at (bucket / 64))

-- No bucket of a missing segment is stored.
pub lacks_missing : (limit : ℕ) (row : List (Option (List (Option ℕ)))) (bucket : ℕ) → slice_index_or row (bucket / 64) None ≡ None → LacksSegment (bucket_entries limit row) bucket
lacks_missing limit row bucket missing other same = elim (cases_lt other limit) [
  | inl inside ↦ ap is_some (entry_at limit row other inside
      ∙ ap (λ (k : ℕ). slice_index_or (held_by (slice_index_or row k None)) (other % 64) None) same
      ∙ ap (λ (o : Option (List (Option ℕ))). slice_index_or (held_by o) (other % 64) None) missing)
  | inr beyond ↦ ap is_some (entry_past limit row other beyond)
]

-- Every place of a list of `None`s, and every place past its end, reads as `None`.
pub none_in : {A : Type 0} (count at : ℕ) → slice_index_or (replicate {A = Option A} count None) at None ≡ None
none_in zero at = refl
none_in (suc count) zero = refl
none_in (suc count) (suc at) = none_in count at

-- If one dummy is written in a new segment, the segment has this dummy at the given place, and no
-- other dummy.
pub segment_here : (place dummy : ℕ) → place < 64 → slice_index_or (slice_set (replicate 64 None) place (Some dummy)) place None ≡ Some dummy
segment_here place dummy within = get_or-set_same (replicate 64 None) place (Some dummy) None (omega (arith, within, length-replicate {A = Option ℕ} 64 None))

pub segment_elsewhere : (place dummy other : ℕ) → other ≢ place → slice_index_or (slice_set (replicate 64 None) place (Some dummy)) other None ≡ None
segment_elsewhere place dummy other apart = get_or-set_other (replicate 64 None) place other (Some dummy) None apart ∙ none_in 64 other

-- If a row of missing segments is just long enough for the limit, `IsRow` holds for the row.
pub row_missing : (limit count : ℕ) → limit ≤ 64 * count → 64 * count < limit + 64 → limit < 2 ^ 32 → IsRow limit (replicate count None)
row_missing limit count long no_longer fits = record {
  long = let same = length-replicate {A = Option (List (Option ℕ))} count None in omega (arith, same, long);
  no_longer = let same = length-replicate {A = Option (List (Option ℕ))} count None in omega (arith, same, no_longer);
  fits = fits;
  used = λ segment there. absurd (let no : false ≡ true = sym (ap is_some (none_in count segment)) ∙ there in cc);
}

-- All entries of a row of missing segments are `None`.
pub entries_missing : (limit count : ℕ) → bucket_entries limit (replicate count None) ≡ replicate limit None
entries_missing limit count = ext_get_or None _ _ (entries_length limit (replicate count None) ∙ sym (length-replicate limit None)) each
  where
    each : (i : ℕ) → i < length (bucket_entries limit (replicate count None)) → get_or (bucket_entries limit (replicate count None)) i None ≡ get_or (replicate {A = Option ℕ} limit None) i None
    each i below =
        entry_at limit (replicate count None) i (omega (arith, below, entries_length limit (replicate count None)))
        ∙ ap (λ (o : Option (List (Option ℕ))). slice_index_or (held_by o) (i % 64) None) (none_in count (i / 64)) ∙ sym (none_in limit i)

-- The value read from the row for a bucket is the bucket's segment, or `None` if the segment is
-- missing.
pub segment_read : (row : List (Option (List (Option ℕ)))) (bucket : ℕ) (limit : ℕ) (old : Option (List (Option ℕ))) → bucket < limit → limit ≤ 64 * length row → old ≡ slice_index_or row (bucket / 64) old → old ≡ slice_index_or row (bucket / 64) None
segment_read row bucket limit old within long is = get_or_read row (bucket / 64) old (segment_within limit bucket (length row) within long) is None

-- How a row and its entries change if a dummy is put into a bucket's segment.
module _ (limit : ℕ) (row : List (Option (List (Option ℕ)))) (bucket dummy : ℕ) (old new : Option (List (Option ℕ))) (is : IsRow limit row) (within : bucket < limit) (was : old ≡ slice_index_or row (bucket / 64) None) where
  others : (puts : Puts old new (bucket % 64) dummy) (place : ℕ) → place ≢ bucket % 64 → slice_index_or puts.segment place None ≡ slice_index_or (held_by (slice_index_or row (bucket / 64) None)) place None
  others puts place apart = puts.elsewhere place apart ∙ ap (λ (o : Option (List (Option ℕ))). slice_index_or (held_by o) place None) was

  pub row_put : {E : Type 0} (result : Result Unit E) → IfOk result (λ done. Puts old new (bucket % 64) dummy) → OnErr result (new ≡ old) → IsRow limit (slice_set row (bucket / 64) new)
  row_put (Ok done) puts same = subst (λ (o : Option (List (Option ℕ))). IsRow limit (slice_set row (bucket / 64) o)) (sym puts.there) (row_set limit row bucket puts.segment dummy within is.long puts.here (others puts) is)
  row_put (Err fault) puts same = subst (λ (r : List (Option (List (Option ℕ)))). IsRow limit r) (sym (ap (λ (o : Option (List (Option ℕ))). slice_set row (bucket / 64) o) (same ∙ was) ∙ set-get_or row (bucket / 64) None)) is

  pub entries_put : {E : Type 0} (result : Result Unit E) → IfOk result (λ done. Puts old new (bucket % 64) dummy) → IfOk result (λ done. bucket_entries limit (slice_set row (bucket / 64) new) ≡ slice_set (bucket_entries limit row) bucket (Some dummy))
  entries_put (Ok done) puts = ap (λ (o : Option (List (Option ℕ))). bucket_entries limit (slice_set row (bucket / 64) o)) puts.there ∙ entries_set limit row bucket puts.segment dummy within is.long puts.here (others puts)
  entries_put (Err fault) puts = tt

  pub lacks_put : {E : Type 0} (result : Result Unit E) → OnErr result (old ≡ None) → OnErr result (LacksSegment (bucket_entries limit row) bucket)
  lacks_put (Ok done) none = tt
  lacks_put (Err fault) none = lacks_missing limit row bucket (sym was ∙ none)
