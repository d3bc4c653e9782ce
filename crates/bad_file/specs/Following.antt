-- The elements that are expected in an entry, read one after the other. They are proved to be those
-- that `entry_of` reads.
use Rattle.std.specs.Prelude.{List, [], ◌∷◌, ℕ, Bool, Option, Some, None, if◌then◌else◌, codes}
use Rattle.std.specs.Str.{bytes_eq}
use Rattle.serde_json.specs.Data.{Data}
use Rattle.serde_json.specs.Find.{as_str}
use Rattle.bad_file.specs.declared.expected.Expected.{Expected}
use Rattle.bad_file.specs.declared.expected.Expected.TheVariants.{EntryName, OpName, OldOpName, Caller, Number, NumberOrNull}

-- An expected value: the name of an operation. If the flag is true, only the names of version 1 are
-- expected.
abbrev pub op_name : Bool → Expected
op_name is_old = if is_old then OldOpName else OpName

-- The elements expected after the word of an entry.
abbrev pub after_entry_name : Bool → List ℕ → List Expected
after_entry_name is_old word =
    if bytes_eq word (codes "asked") then Caller ∷ op_name is_old ∷ []
    else if bytes_eq word (codes "busy") then Caller ∷ op_name is_old ∷ Caller ∷ []
    else if bytes_eq word (codes "did") then Caller ∷ NumberOrNull ∷ []
    else if bytes_eq word (codes "undone") then Caller ∷ []
    else if bytes_eq word (codes "began") then Caller ∷ Number ∷ []
    else if bytes_eq word (codes "saved") then Caller ∷ []
    else if bytes_eq word (codes "leave") then Caller ∷ NumberOrNull ∷ []
    else if bytes_eq word (codes "returned") then Caller ∷ Number ∷ []
    else if bytes_eq word (codes "committed") then Caller ∷ Number ∷ []
    else if bytes_eq word (codes "aborted") then Caller ∷ []
    else []

-- The elements expected after the word of an operation.
abbrev pub after_op_name : List ℕ → List Expected
after_op_name word =
    if bytes_eq word (codes "put") then Number ∷ Number ∷ []
    else if bytes_eq word (codes "take") then Number ∷ []
    else if bytes_eq word (codes "get") then Number ∷ []
    else if bytes_eq word (codes "put_if") then Number ∷ NumberOrNull ∷ Number ∷ []
    else []

-- The elements expected after a word, if there is one.
abbrev pub after_word : (List ℕ → List Expected) → Option (List ℕ) → List Expected
after_word follows None = []
after_word follows (Some word) = follows word

-- The elements that are expected after this element. If this element is not the word of an entry or
-- an operation, there are none.
abbrev pub expected_after : Bool → Expected → Data → List Expected
expected_after is_old EntryName d = after_word (after_entry_name is_old) (as_str d)
expected_after is_old OpName d = after_word after_op_name (as_str d)
expected_after is_old OldOpName d = after_word after_op_name (as_str d)
expected_after is_old e d = []
