-- A file is a JSON object that has a version, some numbers and an array of pieces.
use Rattle.std.specs.Prelude.{ℕ, List, [], ◌∷◌, length, Bool, true, ◌&&◌, not, nat_le, map, Option, Some, option_map, option_and_then, Result, Ok, Err, if◌then◌else◌, codes}
use Rattle.std.specs.List.{list_all}
use Rattle.std.specs.Str.{bytes_eq}
use Rattle.serde_json.specs.Data.{Data}
use Rattle.piece_files.specs.declared.part.Part.{Part}
use Rattle.piece_files.specs.declared.file_fault.FileFault.{FileFault}
use Rattle.piece_files.specs.declared.file_fault.FileFault.TheVariants.{Member, Limit}
use Rattle.piece_files.specs.Faults.{◌>>=◌, or_fault}
use Rattle.piece_files.specs.Json.{json_of, number_named}
use Rattle.piece_files.specs.Pieces.{pieces_member, old_of, in_version}

-- A kind of file: the names of its numbers, the name of the member that has its pieces, and the
-- function `of` that reads a piece. `is_old` says whether a piece also exists in version 1, `part`
-- is what a fault calls a piece, and `most` is the highest number of pieces. The result of
-- `contents` has the numbers in the order of their names.
pub record FileKind (P : Type 0) : Type 0 where
  pub numbers : List (List ℕ)
  pub pieces : List ℕ
  pub of : List Data → Option P
  pub is_old : P → Bool
  pub part : Part
  pub most : ℕ

-- The name of the member with the version of the file.
abbrev pub version : List ℕ
version = codes "version"

-- The names of a file's members.
abbrev pub names_of : {P : Type 0} → FileKind P → List (List ℕ)
names_of kind = version ∷ kind.pieces ∷ kind.numbers

-- Whether no name occurs twice.
abbrev pub are_apart : List (List ℕ) → Bool
are_apart [] = true
are_apart (name ∷ names) = list_all (λ other. not (bytes_eq name other)) names && are_apart names

-- The list of the numbers, if none is missing.
abbrev pub all_of : List (Option ℕ) → Option (List ℕ)
all_of [] = Some []
all_of (number ∷ numbers) = option_and_then (λ n. option_map (λ ns. n ∷ ns) (all_of numbers)) number

-- The highest version of a file that can be read.
abbrev pub max_version : ℕ
max_version = 3

-- Whether files of this version can be read.
abbrev pub is_version : ℕ → Bool
is_version v = nat_le 1 v && nat_le v max_version

-- The version, the numbers and the pieces of a file, or its first fault. `old` is the result of
-- reading the pieces in version 1, and `new` is the result in all other versions. The version, the
-- numbers and the pieces are tested in this order. The last two tests are that the version can be
-- read, and that there are at most `most` pieces.
unfoldable pub contents_from : {P : Type 0} → ℕ → Option ℕ → Option (List ℕ)
    → Result (List P) FileFault → Result (List P) FileFault
    → Result (ℕ × List ℕ × List P) FileFault
contents_from most version numbers old new = do
  v ← or_fault Member version
  ns ← or_fault Member numbers
  ps ← in_version v old new
  if is_version v && nat_le (length ps) most then Ok (v, ns, ps) else Err Limit

-- Reads a value as a file of this kind. The result is the file's version, numbers and pieces, or
-- the first fault.
unfoldable pub contents_of : {P : Type 0}
    → FileKind P → Data → Result (ℕ × List ℕ × List P) FileFault
contents_of kind d =
    contents_from kind.most (number_named version d)
    (all_of (map (λ name. number_named name d) kind.numbers))
    (pieces_member (old_of kind.is_old kind.of) kind.part kind.pieces d)
    (pieces_member kind.of kind.part kind.pieces d)

-- Reads bytes as a file of this kind. The result is the file's version, numbers and pieces, or the
-- first fault.
abbrev pub contents : {P : Type 0} → FileKind P → List ℕ → Result (ℕ × List ℕ × List P) FileFault
contents kind bytes = json_of bytes >>= contents_of kind
