-- PROMISES what-is-wrong-with-a-refused-file: TellsFlaw, IsFault
-- The flaw of a history file that is refused.
use Rattle.std.specs.Prelude.{◌≡◌, ◌⊎◌, ◌↔◌, ◌<◌, ℕ, List, [], ◌∷◌, ◌++◌, take, slice_get, Bool, true, false, not, ◌&&◌, ◌||◌, ◌==◌, Option, Some, None, option_and_then, IsSome, IsOk, Result, Ok, Err, if◌then◌else◌}
use Rattle.std.specs.List.{All}
use Rattle.std.specs.Option.{option_or}
use Rattle.serde_json.specs.Data.{Data}
use Rattle.txn_words.specs.declared.entry.Entry.{Entry as TheEntry}
use Rattle.piece_files.specs.declared.file_fault.FileFault.{FileFault}
use Rattle.piece_files.specs.declared.file_fault.FileFault.TheVariants as faults
use Rattle.piece_files.specs.Elements.{elements_of}
use Rattle.piece_files.specs.Faults.{◌>>=◌}
use Rattle.piece_files.specs.Files.{contents_of, version}
use Rattle.piece_files.specs.Json.{json_of, number_named}
use Rattle.txn_files.specs.Entries.{entry_of, is_old_entry}
use Rattle.txn_files.specs.HistoryFile.{entries_from, history_file, history_of, is_in_range}
use Rattle.bad_file.specs.Places.{at, entry_at}
use Rattle.bad_file.specs.Meets.{found_of, is_met}
use Rattle.bad_file.specs.declared.expected.Expected.{Expected}
use Rattle.bad_file.specs.declared.expected.Expected.TheVariants as expected
use Rattle.bad_file.specs.declared.flaw.Flaw.{Flaw}
use Rattle.bad_file.specs.declared.flaw.Flaw.TheVariants.{TooLong, NotJson, Wrong}
use Rattle.bad_file.specs.declared.place.Place.{Place}
use Rattle.bad_file.specs.declared.place.Place.TheVariants.{File, Version, Stripes, Entries, Entry, Element}

-- ---- the elements of an entry

-- The entry with these elements, if there is one. Two flags leave some entries out:
-- - If `is_old` is true, an entry counts only if it is allowed in version 1.
-- - If `ranged` is true, an entry counts only if its callers are in range.
abbrev pub entry_in : Bool → Bool → List Data → Option TheEntry
entry_in is_old ranged ds =
    option_and_then (λ e. if (not is_old || is_old_entry e) && (not ranged || is_in_range e) then Some e else None)
    (entry_of ds)

-- Some entry begins with these elements.
abbrev pub BeginsEntry : Bool → Bool → List Data → Type 0
BeginsEntry is_old ranged ds = (more : List Data) × IsSome (entry_in is_old ranged (ds ++ more))

-- The elements are not an entry, and the element at index `i` is the first at fault. If an element
-- is missing, `i` is the number of elements. `wanted` is what is allowed at index `i`, or None if
-- no element is allowed there. The elements before index `i` begin some entry. Followed by one more
-- element, they begin some entry exactly if that element is as wanted. The element at index `i` is
-- not.
pub record IsFault (is_old ranged : Bool) (ds : List Data) (i : ℕ) (wanted : Option Expected)
    : Type 0 where
  pub refused : entry_in is_old ranged ds ≡ None
  pub before : BeginsEntry is_old ranged (take i ds)
  pub next : (d : Data) → BeginsEntry is_old ranged (take i ds ++ d ∷ []) ↔ (is_met ranged wanted (Some d) ≡ true)
  pub here : is_met ranged wanted (slice_get ds i) ≡ false

-- ---- the file

-- The flaw at a place whose value is not as expected.
abbrev pub wrong : Data → Place → Option Expected → Flaw
wrong d place wanted = Wrong place (found_of (at place d)) wanted

-- The flaw at a place, or `None` if the value at the place is as expected.
abbrev pub flaw_at : Bool → Data → Place → Expected → Option Flaw
flaw_at ranged d place wanted =
    if is_met ranged (Some wanted) (at place d) then None else Some (wrong d place (Some wanted))

-- The flaw of the first member that is not as expected.
abbrev pub flaw_in_members : Bool → Data → Option Flaw
flaw_in_members ranged d =
    option_or (flaw_at ranged d File expected.Object)
    (option_or (flaw_at ranged d Version expected.Version)
    (option_or (flaw_at ranged d Stripes expected.Stripes)
    (flaw_at ranged d Entries expected.Entries)))

abbrev pub is_one : Option ℕ → Bool
is_one None = false
is_one (Some n) = n == 1

-- Whether a file is of version 1.
abbrev pub is_old_file : Data → Bool
is_old_file d = is_one (number_named version d)

-- The value is an entry.
abbrev pub IsEntry : Bool → Bool → Data → Type 0
IsEntry is_old ranged d = IsSome (option_and_then (entry_in is_old ranged) (elements_of d))

-- All values are entries.
abbrev pub AreEntries : Bool → Bool → List Data → Type 0
AreEntries is_old ranged ds = All (IsEntry is_old ranged) ds

-- `flaw` is the flaw of the entry at index `i` of a file. Either the entry is not an array, or
-- `flaw` is at the entry's first element at fault.
abbrev pub IsFlawOfEntry : Bool → Bool → Data → ℕ → Option (List Data) → Flaw → Type 0
IsFlawOfEntry is_old ranged d i None flaw = flaw ≡ wrong d (Entry i) (Some expected.Entry)
IsFlawOfEntry is_old ranged d i (Some ds) flaw =
    (j : ℕ) × (wanted : Option Expected) × IsFault is_old ranged ds j wanted
    × (flaw ≡ wrong d (Element i j) wanted)

-- The element of `entries` at this index is the first that is not an entry, and `flaw` is its flaw.
pub record IsFlawAt (is_old ranged : Bool) (d : Data) (i : ℕ) (flaw : Flaw) : Type 0 where
  pub entry : Data
  pub is_there : entry_at i d ≡ Some entry
  pub before : (k : ℕ) (e : Data) → k < i → entry_at k d ≡ Some e → IsEntry is_old ranged e
  pub here : IsFlawOfEntry is_old ranged d i (elements_of entry) flaw

-- `flaw` is the flaw of a file whose shapes are right: a member that is out of range or, if there
-- is none, a caller that is out of range.
abbrev pub IsOutOfRange : Data → Flaw → Type 0
IsOutOfRange d flaw =
    (flaw_in_members true d ≡ Some flaw)
    ⊎ ((flaw_in_members true d ≡ None) × ((i : ℕ) × IsFlawAt (is_old_file d) true d i flaw))

-- `flaw` is the flaw of a file with this JSON value, given the fault for which the file is refused.
abbrev pub IsFlawOf : Data → FileFault → Flaw → Type 0
IsFlawOf d faults.Member flaw = flaw_in_members false d ≡ Some flaw
IsFlawOf d (faults.Piece part i) flaw = IsFlawAt (is_old_file d) false d i flaw
IsFlawOf d faults.Limit flaw = IsOutOfRange d flaw
IsFlawOf d faults.NotJson flaw = ⊥
IsFlawOf d faults.NoMemory flaw = ⊥

-- The contents of the history file that has this JSON value, or the file's first fault.
abbrev pub history_in : Data → Result (ℕ × List TheEntry × ℕ) FileFault
history_in d = contents_of history_file d >>= λ file. entries_from file.0 file.1 file.2

-- The flaw of the history file that has this JSON value. It is None if the file is accepted, and
-- otherwise the cause of the refusal.
abbrev pub TellsOf : Data → Option Flaw → Type 0
TellsOf d None = IsOk (history_in d)
TellsOf d (Some flaw) = (fault : FileFault) × (history_in d ≡ Err fault) × IsFlawOf d fault flaw

-- `flaw` is the flaw of bytes, given the fault for which they are refused: the bytes are not JSON,
-- there are too many of them, or their JSON value has this flaw.
abbrev pub IsFlaw : FileFault → Result Data FileFault → Flaw → Type 0
IsFlaw fault (Ok d) flaw = IsFlawOf d fault flaw
IsFlaw fault (Err faults.NotJson) flaw =
    (line : ℕ) × (column : ℕ) × (flaw ≡ NotJson line column)
IsFlaw fault (Err other) flaw = flaw ≡ TooLong

-- The flaw of the history file that has these bytes. It is None if the file is accepted, and
-- otherwise the cause of the refusal.
abbrev pub TellsFlaw : List ℕ → Option Flaw → Type 0
TellsFlaw bytes None = IsOk (history_of bytes)
TellsFlaw bytes (Some flaw) =
    (fault : FileFault) × (history_of bytes ≡ Err fault) × IsFlaw fault (json_of bytes) flaw
