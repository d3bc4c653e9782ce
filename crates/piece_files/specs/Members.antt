-- The members of an object, and what is found in them.
use Rattle.std.specs.Prelude.{◌≡◌, ℕ, Bool, List, map, Option, Some, None, option_and_then, Result, Err}
use Rattle.serde_json.specs.Data.{Data, null, boolean, number, string, array, object, Members, no_members}
use Rattle.serde_json.specs.Find.{get_member}
use Rattle.piece_files.specs.declared.part.Part.{Part}
use Rattle.piece_files.specs.declared.piece.Pieces.{Pieces}
use Rattle.piece_files.specs.declared.file_fault.FileFault.{FileFault}
use Rattle.piece_files.specs.declared.file_fault.FileFault.TheVariants.{Member}
use Rattle.piece_files.specs.declared.members.Names.{Names}
use Rattle.piece_files.specs.Elements.{whole_number, elements_of}
use Rattle.piece_files.specs.Files.{FileKind, version}
use Rattle.piece_files.specs.Pieces.{pieces_from, old_of}
use Rattle.piece_files.specs.Tokens.{FindsBoth}

-- The members of a value. A value that is no object has none.
abbrev pub members_within : Data → Members
members_within null = no_members
members_within (boolean b) = no_members
members_within (number n) = no_members
members_within (string s) = no_members
members_within (array ds) = no_members
members_within (object ms) = ms

-- The number in the last member with this name.
abbrev pub last_number : Members → List ℕ → Option ℕ
last_number ms name = option_and_then whole_number (get_member name ms)

-- If the value is an array, the option has the result of reading its pieces. If not, the option is
-- `None`.
abbrev pub ArePiecesOf : {P : Type 0} → (List Data → Option P) → (P → Bool) → Part → ℕ
    → Option (Pieces P) → Data → Type 0
ArePiecesOf of is_old part most None d = elements_of d ≡ None
ArePiecesOf of is_old part most (Some p) d =
    (ds : List Data) × (elements_of d ≡ Some ds)
    × FindsBoth part most p (pieces_from (old_of is_old of) part 0 ds) (pieces_from of part 0 ds)

-- If the member is an array, the option has the result of reading its pieces. If the member is
-- missing or no array, the option is `None`.
abbrev pub ArePiecesIn : {P : Type 0} → (List Data → Option P) → (P → Bool) → Part → ℕ
    → Option (Pieces P) → Option Data → Type 0
ArePiecesIn of is_old part most found None = found ≡ None
ArePiecesIn of is_old part most found (Some d) = ArePiecesOf of is_old part most found d

-- The kind of file that has members with these names.
abbrev pub kind_named : {P : Type 0}
    → Names → (List Data → Option P) → (P → Bool) → Part → ℕ → FileKind P
kind_named names of is_old part most = record {
  numbers = map (λ name. name.now) names.numbers.now;
  pieces = names.pieces.now;
  of = of;
  is_old = is_old;
  part = part;
  most = most;
}

-- For each member that the file kind names, the value that was found is the value of the last
-- member with this name.
pub record AreFound {P : Type 0} (kind : FileKind P) (n : Option ℕ) (numbers : List (Option ℕ))
    (pieces : Option (Pieces P)) (ms : Members) : Type 0 where
  pub the_version : n ≡ last_number ms version
  pub the_numbers : numbers ≡ map (last_number ms) kind.numbers
  pub the_pieces :
      ArePiecesIn kind.of kind.is_old kind.part kind.most pieces (get_member kind.pieces ms)

-- The results of reading the member with the pieces: `old` is the result for version 1, and `new`
-- is the result for all other versions. The option has the pieces that were read. If the member is
-- missing or no array, the option is `None`, and both results are the fault `Member`.
abbrev pub FindsIn : {P : Type 0} → Part → ℕ → Option (Pieces P)
    → Result (List P) FileFault → Result (List P) FileFault → Type 0
FindsIn part most None old new = (old ≡ Err Member) × (new ≡ Err Member)
FindsIn part most (Some p) old new = FindsBoth part most p old new
