-- The pieces of a file, such as the steps of a step file. Each piece is an array.
use Rattle.std.specs.Prelude.{ℕ, suc, ◌==◌, Bool, List, [], ◌∷◌, Option, Some, None, option_and_then, Result, Ok, if◌then◌else◌}
use Rattle.serde_json.specs.Data.{Data}
use Rattle.piece_files.specs.declared.part.Part.{Part}
use Rattle.piece_files.specs.declared.file_fault.FileFault.{FileFault}
use Rattle.piece_files.specs.declared.file_fault.FileFault.TheVariants.{Piece}
use Rattle.piece_files.specs.Faults.{◌>>=◌, or_fault}
use Rattle.piece_files.specs.Elements.{elements_of}
use Rattle.piece_files.specs.Json.{array_member}

-- Reads the value at index `i` as a piece. If it is no piece, the result is a fault with this
-- index. `of` reads a piece from the value's elements.
abbrev pub piece_at : {P : Type 0} → (List Data → Option P) → Part → ℕ → Data → Result P FileFault
piece_at of part i d = or_fault (Piece part i) (option_and_then of (elements_of d))

-- Reads elements as pieces. The first element has the index `i`. The result is the pieces or the
-- first fault.
unfoldable pub pieces_from : {P : Type 0} → (List Data → Option P) → Part → ℕ
    → List Data → Result (List P) FileFault
pieces_from of part i [] = Ok []
pieces_from of part i (d ∷ ds) = do
  first ← piece_at of part i d
  others ← pieces_from of part (suc i) ds
  Ok (first ∷ others)

-- The piece that version 1 reads from these elements, if there is one. Version 1 has exactly the
-- pieces of version 2 for which `is_old` is true.
abbrev pub old_of : {P : Type 0} → (P → Bool) → (List Data → Option P) → List Data → Option P
old_of is_old of ds = option_and_then (λ p. if is_old p then Some p else None) (of ds)

-- Returns `old` for version 1, and `new` for all other versions.
abbrev pub in_version : {A : Type 0} → ℕ → A → A → A
in_version version old new = if version == 1 then old else new

-- The pieces in the member with this name, or the first fault.
abbrev pub pieces_member : {P : Type 0} → (List Data → Option P) → Part → List ℕ
    → Data → Result (List P) FileFault
pieces_member of part name d = array_member name d >>= pieces_from of part 0
