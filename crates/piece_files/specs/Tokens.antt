-- The value that tokens begin with, as `serde_json` defines it, and the tokens after it.
use Rattle.std.specs.Prelude.{◌≡◌, ℕ, zero, suc, List, [], ◌∷◌, length, take, map, Bool, true, false, ◌&&◌, Option, Some, None}
use Rattle.json.specs.Token.{Token}
use Rattle.json.specs.Json.{value, items, members}
use Rattle.serde_json.specs.Data.{Num, unsigned, negative, float, Data, null, boolean, number, string, array, object, Items, no_items, item, Members, no_members}
use Rattle.serde_json.specs.Read.{of_json, of_items, of_members, converted}
use Rattle.piece_files.specs.declared.plain.Plain.{Plain}
use Rattle.piece_files.specs.Plain.{data_of}
use Rattle.piece_files.specs.declared.part.Part.{Part}
use Rattle.piece_files.specs.declared.piece.Pieces.{Pieces}
use Rattle.std.specs.Prelude.{Result, Ok, Err}
use Rattle.piece_files.specs.declared.file_fault.FileFault.{FileFault}
use Rattle.piece_files.specs.declared.file_fault.FileFault.TheVariants.{Piece}

-- The value that the tokens begin with, and the tokens after this value. The result is `None` if
-- the arrays and objects of the value nest more than `depth` levels deep.
abbrev pub value_at : ℕ → List Token → Option (Data × List Token)
value_at depth ts = converted of_json (value depth ts)

-- The remaining elements of an array, after its opening bracket, and the tokens after the array.
abbrev pub items_at : ℕ → List Token → Option (Items × List Token)
items_at depth ts = converted of_items (items (value depth) (length ts) ts)

-- The remaining members of an object, after its opening brace, and the tokens after the object.
abbrev pub members_at : ℕ → List Token → Option (Members × List Token)
members_at depth ts =
    converted (λ ms. of_members ms no_members) (members (value depth) (length ts) ts)

-- Whether a number is whole, not negative, and below 2^64.
abbrev pub is_whole : Num → Bool
is_whole (unsigned n) = true
is_whole (negative z) = false
is_whole (float x) = false

-- Whether a value is null, a text, or a whole number below 2^64. The reader keeps only such
-- elements.
abbrev pub is_plain : Data → Bool
is_plain null = true
is_plain (boolean b) = false
is_plain (number n) = is_whole n
is_plain (string s) = true
is_plain (array ds) = false
is_plain (object ms) = false

-- Whether there are at most `n` elements, and all of them are plain.
unfoldable pub are_plain : ℕ → List Data → Bool
are_plain n [] = true
are_plain zero (d ∷ ds) = false
are_plain (suc n) (d ∷ ds) = is_plain d && are_plain n ds

-- If there is a plain value, it equals the element `d`, and `d` is plain. If there is no plain
-- value, `d` is not plain.
abbrev pub IsPlain : Option Plain → Data → Type 0
IsPlain (Some v) d = (data_of v ≡ d) × (is_plain d ≡ true)
IsPlain None d = is_plain d ≡ false

-- The Boolean says whether there are at most `most` elements, all of them plain. If so, the values
-- `vs` are the elements.
abbrev pub AreElements : ℕ → Bool → List Plain → List Data → Type 0
AreElements most true vs ds = (map data_of vs ≡ ds) × (are_plain most ds ≡ true)
AreElements most false vs ds = are_plain most ds ≡ false

-- The elements of a list, as `Items`.
abbrev pub items_from : List Data → Items
items_from [] = no_items
items_from (d ∷ ds) = item d (items_from ds)

-- The result of reading pieces. If the flag is true, every element is a piece, and the result is
-- the pieces. If the flag is false, `pieces` are the pieces before the first element that is no
-- piece, and the result is the fault of this element.
abbrev pub outcome : {P : Type 0} → Part → Bool → List P → Result (List P) FileFault
outcome part true pieces = Ok pieces
outcome part false pieces = Err (Piece part (length pieces))

-- `wanted` is the result of reading some pieces, `count` is the number of pieces that were read,
-- and `pieces` are the first `most` of them. If `are_all` is false, only the pieces before the
-- first element that is no piece were read.
abbrev pub FindsPieces : {P : Type 0} → Part → ℕ → List P → ℕ → Bool → Result (List P) FileFault
    → Type 0
FindsPieces {P} part most pieces count are_all wanted =
    (all : List P) × (wanted ≡ outcome part are_all all) × (count ≡ length all)
    × (pieces ≡ take most all)

-- Version 1 gives the same result as version 2, unless some piece is valid only in version 2. In
-- that case version 1 gives the fault of the first such piece, which has the index `i`.
abbrev pub FindsOld : {P : Type 0} → Part → Option ℕ
    → Result (List P) FileFault → Result (List P) FileFault → Type 0
FindsOld part None old new = old ≡ new
FindsOld part (Some i) old new = old ≡ Err (Piece part i)

-- `new` is the result of reading these pieces in version 2, and `old` is the result in version 1.
abbrev pub FindsBoth : {P : Type 0} → Part → ℕ → Pieces P
    → Result (List P) FileFault → Result (List P) FileFault → Type 0
FindsBoth part most p old new =
    FindsPieces part most p.pieces.items p.count p.are_all new × FindsOld part p.first_new old new
