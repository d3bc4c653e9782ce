-- PROMISES what-is-wrong-with-a-refused-file: flaw_text
-- The texts of a history file's flaws.
use Rattle.std.specs.Prelude.{ℕ, List, ◌++◌, Bool, true, false, Some, None, if◌then◌else◌, codes, decimal}
use Rattle.bad_file.specs.declared.expected.Expected.{Expected}
use Rattle.bad_file.specs.declared.expected.Expected.TheVariants as expected
use Rattle.bad_file.specs.declared.flaw.Flaw.{Flaw}
use Rattle.bad_file.specs.declared.flaw.Flaw.TheVariants.{TooLong, NotJson, Wrong}
use Rattle.bad_file.specs.declared.found.Found.{Found}
use Rattle.bad_file.specs.declared.found.Found.TheVariants as found
use Rattle.bad_file.specs.declared.place.Place.{Place}
use Rattle.bad_file.specs.declared.place.Place.TheVariants.{File, Version, Stripes, Entries, Entry, Element}

-- A place as a JSON path.
abbrev pub place_text : Place → List ℕ
place_text File = codes "$"
place_text Version = codes "$.version"
place_text Stripes = codes "$.stripes"
place_text Entries = codes "$.entries"
place_text (Entry i) = codes "$.entries[" ++ (decimal i ++ codes "]")
place_text (Element i j) =
    codes "$.entries[" ++ (decimal i ++ (codes "][" ++ (decimal j ++ codes "]")))

-- The words that say what was found at a place.
abbrev pub found_text : Found → List ℕ
found_text found.Nothing = codes "nothing"
found_text found.Null = codes "null"
found_text found.Bool = codes "true or false"
found_text (found.Number n) = decimal n
found_text found.OtherNumber =
    codes "a number with a sign, a fraction or an exponent, or too large"
found_text found.Text = codes "a text"
found_text (found.Array n) = codes "an array of length " ++ decimal n
found_text found.Object = codes "an object"

-- The values allowed at a place, in words, with the range.
abbrev pub expected_text : Expected → List ℕ
expected_text expected.Object = codes "an object"
expected_text expected.Version = codes "a whole number from 1 to 3"
expected_text expected.Stripes = codes "a whole number from 1 to 4096"
expected_text expected.Entries = codes "an array of at most 1000000 entries"
expected_text expected.Entry = codes "an array"
expected_text expected.EntryName =
    codes "\"asked\", \"busy\", \"did\", \"undone\", \"began\", \"saved\", \"leave\", \"returned\", \"committed\" or \"aborted\""
expected_text expected.OpName = codes "\"put\", \"take\", \"get\" or \"put_if\""
expected_text expected.OldOpName =
    codes "\"put\", \"take\" or \"get\", and from version 2 on \"put_if\""
expected_text expected.Caller = codes "a whole number from 0 to 63"
expected_text expected.Number = codes "a whole number from 0 to 18446744073709551615"
expected_text expected.NumberOrNull =
    codes "a whole number from 0 to 18446744073709551615, or null"

-- True if only a word is expected, and no other kind of value.
abbrev pub is_a_word : Expected → Bool
is_a_word expected.EntryName = true
is_a_word expected.OpName = true
is_a_word expected.OldOpName = true
is_a_word wanted = false

-- True if a word is expected and a text is found.
abbrev pub is_unknown : Found → Expected → Bool
is_unknown found.Text wanted = is_a_word wanted
is_unknown other wanted = false

-- The flaw of a file, as one line.
abbrev pub flaw_text : Flaw → List ℕ
flaw_text TooLong = codes "$: more than 16777216 bytes"
flaw_text (NotJson line column) =
    codes "$: no JSON, or nested more than 127 deep, at line "
    ++ (decimal line ++ (codes " column " ++ decimal column))
flaw_text (Wrong place other None) = place_text place ++ codes ": an element too many"
flaw_text (Wrong place other (Some wanted)) =
    if is_unknown other wanted
    then place_text place ++ (codes ": an unknown word; expected " ++ expected_text wanted)
    else place_text place
    ++ (codes ": " ++ (found_text other ++ (codes "; expected " ++ expected_text wanted)))
