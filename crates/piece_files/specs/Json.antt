-- The JSON value that bytes stand for, and the members of an object.
use Rattle.std.specs.Prelude.{ℕ, List, length, nat_le, Option, option_and_then, Result, Err, if◌then◌else◌}
use Rattle.std.specs.Str.{is_utf8}
use Rattle.serde_json.specs.Data.{Data}
use Rattle.serde_json.specs.Find.{get}
use Rattle.serde_json.specs.Read.{read}
use Rattle.piece_files.specs.declared.file_fault.FileFault.{FileFault}
use Rattle.piece_files.specs.declared.file_fault.FileFault.TheVariants.{NotJson, Member, Limit}
use Rattle.piece_files.specs.Faults.{or_fault}
use Rattle.piece_files.specs.Elements.{whole_number, elements_of}

-- The greatest length of a file, in bytes.
abbrev pub max_bytes : ℕ
max_bytes = 16777216

-- The JSON value of a file's bytes. The number of bytes is tested first.
unfoldable pub json_of : List ℕ → Result Data FileFault
json_of bytes =
    if nat_le (length bytes) max_bytes
    then (if is_utf8 bytes then or_fault NotJson (read bytes) else Err NotJson)
    else Err Limit

-- The number in the member with this name.
abbrev pub number_named : List ℕ → Data → Option ℕ
number_named name d = option_and_then whole_number (get name d)

-- The elements of the array in the member with this name.
abbrev pub array_member : List ℕ → Data → Result (List Data) FileFault
array_member name d = or_fault Member (option_and_then elements_of (get name d))
