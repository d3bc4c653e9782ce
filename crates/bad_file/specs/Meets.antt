-- PROMISES what-is-wrong-with-a-refused-file: is_met
-- The value at a place, and whether it is as expected.
use Rattle.std.specs.Prelude.{ℕ, List, [], ◌∷◌, length, nat_le, Bool, true, false, not, ◌&&◌, ◌||◌, Option, Some, None, is_some, codes}
use Rattle.std.specs.List.{list_any}
use Rattle.std.specs.Str.{bytes_eq}
use Rattle.serde_json.specs.Data.{Num, unsigned, negative, float, Data, null, boolean, number, string, array, object}
use Rattle.serde_json.specs.Find.{as_object, as_str}
use Rattle.txn_words.specs.Sizes.{max_stripes}
use Rattle.piece_files.specs.Elements.{whole_number, elements_of, list_of, optional}
use Rattle.piece_files.specs.Files.{max_version}
use Rattle.txn_files.specs.HistoryFile.{max_caller, max_entries}
use Rattle.bad_file.specs.declared.expected.Expected.{Expected}
use Rattle.bad_file.specs.declared.expected.Expected.TheVariants as expected
use Rattle.bad_file.specs.declared.found.Found.{Found}
use Rattle.bad_file.specs.declared.found.Found.TheVariants as found

-- How a flaw reports that a number was found.
abbrev pub number_found : Num → Found
number_found (unsigned n) = found.Number n
number_found (negative z) = found.OtherNumber
number_found (float x) = found.OtherNumber

-- How a flaw reports that this value was found.
abbrev pub kind_of : Data → Found
kind_of null = found.Null
kind_of (boolean b) = found.Bool
kind_of (number n) = number_found n
kind_of (string s) = found.Text
kind_of (array ds) = found.Array (length (list_of ds))
kind_of (object ms) = found.Object

-- How a flaw reports what was found at a place: this value, or nothing.
abbrev pub found_of : Option Data → Found
found_of None = found.Nothing
found_of (Some d) = kind_of d

-- True if a word names a kind of entry.
abbrev pub is_entry_name : List ℕ → Bool
is_entry_name word =
    list_any (bytes_eq word)
    (codes "asked" ∷ codes "busy" ∷ codes "did" ∷ codes "undone" ∷ codes "began" ∷ codes "saved"
    ∷ codes "leave" ∷ codes "returned" ∷ codes "committed" ∷ codes "aborted" ∷ [])

-- True if a word names an operation of version 1.
abbrev pub is_old_op_name : List ℕ → Bool
is_old_op_name word = list_any (bytes_eq word) (codes "put" ∷ codes "take" ∷ codes "get" ∷ [])

-- True if a word names an operation.
abbrev pub is_op_name : List ℕ → Bool
is_op_name word =
    list_any (bytes_eq word) (codes "put" ∷ codes "take" ∷ codes "get" ∷ codes "put_if" ∷ [])

-- True if there is a word and it passes the test.
abbrev pub is_named : (List ℕ → Bool) → Option (List ℕ) → Bool
is_named test None = false
is_named test (Some word) = test word

-- True if there is a number. If `ranged` is true, it must also be from `least` to `most`.
abbrev pub in_range : Bool → ℕ → ℕ → Option ℕ → Bool
in_range ranged least most None = false
in_range ranged least most (Some n) = not ranged || (nat_le least n && nat_le n most)

-- True if a value is a whole number. If `ranged` is true, it must also be from `least` to `most`.
abbrev pub is_number : Bool → ℕ → ℕ → Data → Bool
is_number ranged least most d = in_range ranged least most (whole_number d)

-- True if there are elements. If `ranged` is true, there must also be at most `most` of them.
abbrev pub are_few : Bool → ℕ → Option (List Data) → Bool
are_few ranged most None = false
are_few ranged most (Some ds) = not ranged || nat_le (length ds) most

-- True if a value is an array. If `ranged` is true, it must also have at most `most` elements.
abbrev pub is_array : Bool → ℕ → Data → Bool
is_array ranged most d = are_few ranged most (elements_of d)

-- True if a value is as expected. Its range is tested only if `ranged` is true.
abbrev pub is_as_expected : Bool → Expected → Data → Bool
is_as_expected ranged expected.Object d = is_some (as_object d)
is_as_expected ranged expected.Version d = is_number ranged 1 max_version d
is_as_expected ranged expected.Stripes d = is_number ranged 1 max_stripes d
is_as_expected ranged expected.Entries d = is_array ranged max_entries d
is_as_expected ranged expected.Entry d = is_some (elements_of d)
is_as_expected ranged expected.EntryName d = is_named is_entry_name (as_str d)
is_as_expected ranged expected.OpName d = is_named is_op_name (as_str d)
is_as_expected ranged expected.OldOpName d = is_named is_old_op_name (as_str d)
is_as_expected ranged expected.Caller d = is_number ranged 0 max_caller d
is_as_expected ranged expected.Number d = is_some (whole_number d)
is_as_expected ranged expected.NumberOrNull d = is_some (optional d)

-- Whether the value at a place is as expected. If None is expected, there must be no value.
abbrev pub is_met : Bool → Option Expected → Option Data → Bool
is_met ranged None None = true
is_met ranged None (Some d) = false
is_met ranged (Some e) None = false
is_met ranged (Some e) (Some d) = is_as_expected ranged e d
