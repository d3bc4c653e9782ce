-- A history as compact JSON.
use Rattle.std.specs.Prelude.{ℕ, List, [], ◌∷◌, ◌++◌, map, Option, Some, None, codes, decimal}
use Rattle.std.specs.List.{join_with_byte}
use Rattle.txn_words.specs.declared.entry.Entry.{Entry}
use Rattle.txn_words.specs.declared.entry.Entry.TheVariants.{Began, Asked, Did, Saved, Leave, Undone, Returned, Committed, Busy, Aborted}
use Rattle.txn_files.specs.Operations.{elements_of_op}

-- The byte of a comma.
abbrev pub comma : ℕ
comma = 44

-- The text of an array, given the texts of its elements.
abbrev pub array_text : List (List ℕ) → List ℕ
array_text elements = codes "[" ++ (join_with_byte comma elements ++ codes "]")

-- A word in quotation marks.
abbrev pub quoted : List ℕ → List ℕ
quoted word = codes "\"" ++ (word ++ codes "\"")

-- The decimal text of a number, or `null` if there is no number.
abbrev pub optional_text : Option ℕ → List ℕ
optional_text None = codes "null"
optional_text (Some n) = decimal n

-- The elements of an entry: its name, its caller and its further elements.
abbrev pub elements_of_entry : Entry → List (List ℕ)
elements_of_entry (Began c t) = quoted (codes "began") ∷ decimal c ∷ decimal t ∷ []
elements_of_entry (Asked c op) = quoted (codes "asked") ∷ decimal c ∷ elements_of_op op
elements_of_entry (Did c r) = quoted (codes "did") ∷ decimal c ∷ optional_text r ∷ []
elements_of_entry (Saved c) = quoted (codes "saved") ∷ decimal c ∷ []
elements_of_entry (Leave c n) = quoted (codes "leave") ∷ decimal c ∷ optional_text n ∷ []
elements_of_entry (Undone c) = quoted (codes "undone") ∷ decimal c ∷ []
elements_of_entry (Returned c n) = quoted (codes "returned") ∷ decimal c ∷ decimal n ∷ []
elements_of_entry (Committed c p) = quoted (codes "committed") ∷ decimal c ∷ decimal p ∷ []
elements_of_entry (Busy c op x) =
    quoted (codes "busy") ∷ decimal c ∷ elements_of_op op ++ decimal x ∷ []
elements_of_entry (Aborted c) = quoted (codes "aborted") ∷ decimal c ∷ []

-- The text of an entry: an array of its elements.
abbrev pub entry_text : Entry → List ℕ
entry_text e = array_text (elements_of_entry e)

-- The text of an object that has the entries, the number of stripes and the version, in this order.
abbrev pub text_of_history : ℕ → ℕ → List Entry → List ℕ
text_of_history version stripes entries =
    codes "{\"entries\":" ++ (array_text (map entry_text entries)
    ++ (codes ",\"stripes\":" ++ (decimal stripes
    ++ (codes ",\"version\":" ++ (decimal version ++ codes "}")))))
