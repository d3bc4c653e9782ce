-- How the entries of all callers, each with its position, make up the history.
use Rattle.std.specs.Prelude.{Bool, true, false, cond, ◌==◌, ◌-◌, ◌≡◌, ◌≢◌, slice_index_or as get_or, slice_get, Option, None, Some, replicate, ℕ, zero, suc, ◌+◌, List, [], ◌∷◌, slice_set, length}
use Rattle.txn_words.specs.declared.entry.Entry.{Entry}
use Rattle.txn_words.specs.declared.entry.Entry.TheVariants.{Began, Committed}
use Rattle.striped_map.specs.Apart.{Listed}
use Rattle.striped_map.specs.declared.record.Record.{Record}
use Rattle.striped_map.specs.Records.{spread}
use Rattle.striped_map.specs.Steps.{marks}

-- The list, with each of these entries at its position.
abbrev pub written : List Entry → List (ℕ × Entry) → List Entry
written t [] = t
written t (m ∷ ms) = written (slice_set t m.0 m.1) ms

-- The list, with the entries of the callers below `made`.
abbrev pub written_to : ℕ → List Entry → List Entry → List Entry
written_to zero t log = t
written_to (suc made) t log = written (written_to made t log) (marks made 0 log)

-- How many entries the callers below `made` have.
abbrev pub entries_to : ℕ → List Entry → ℕ
entries_to zero log = 0
entries_to (suc made) log = entries_to made log + length (marks made 0 log)

-- The entries, with the transactions and the commits numbered. There were `t` transactions and `p`
-- commits before.
abbrev pub numbered : ℕ → ℕ → List Entry → List Entry
numbered t p [] = []
numbered t p (Began c n ∷ es) = Began c (t + 1) ∷ numbered (t + 1) p es
numbered t p (Committed c n ∷ es) = Committed c (p + 1) ∷ numbered t (p + 1) es
numbered t p (e ∷ es) = e ∷ numbered t p es

-- The records of a caller, or none if the caller was not merged.
abbrev pub records_of : Option (Listed Record) → List Record
records_of None = []
records_of (Some rs) = rs.items

-- The list, with the entries of the records of the callers from `c` on at their positions.
abbrev pub written_from : ℕ → List Entry → List (Option (Listed Record)) → List Entry
written_from c t [] = t
written_from c t (their ∷ theirs) = written_from (c + 1) (written t (spread c (records_of their))) theirs

-- How many entries these records stand for.
abbrev pub entries_in : List (Option (Listed Record)) → ℕ
entries_in [] = 0
entries_in (their ∷ theirs) = length (spread 0 (records_of their)) + entries_in theirs

-- The entries that the records of all callers stand for, in order and numbered.
abbrev pub merged : Entry → List (Option (Listed Record)) → List Entry
merged blank theirs = numbered 0 0 (written_from 0 (replicate (entries_in theirs) blank) theirs)

-- Whether a caller with this number was merged.
abbrev pub is_taken : ℕ → List (ℕ × List Entry) → Bool
is_taken c [] = false
is_taken c (r ∷ rs) = cond (r.0 == c) true (is_taken c rs)

-- The list has the records of exactly the merged callers, each at the place that is one less than
-- the caller's number. The records stand for the caller's entries in the history that it had seen.
pub record HasRecords (retired : List (ℕ × List Entry)) (theirs : List (Option (Listed Record)))
    : Type 0 where
  pub kept : (j : ℕ) (r : ℕ × List Entry) → slice_get retired j ≡ Some r
      → get_or theirs (r.0 - 1) None ≢ None
  pub marked : (j : ℕ) (r : ℕ × List Entry) → slice_get retired j ≡ Some r
      → (rs : Listed Record) → get_or theirs (r.0 - 1) None ≡ Some rs
      → marks r.0 0 r.1 ≡ spread r.0 rs.items
  pub made : (c : ℕ) → get_or theirs c None ≢ None → is_taken (c + 1) retired ≡ true
