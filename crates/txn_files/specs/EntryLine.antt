-- PROMISES entries-as-lines: entry_on
-- The entry on a line. The line holds the entry's array, as in a history file of the newest
-- version.
use Rattle.std.specs.Prelude.{ℕ, Bool, nat_le, List, length, Option, Some, None, option_and_then, Result, Ok, Err, if◌then◌else◌}
use Rattle.std.specs.List.{list_all}
use Rattle.json.specs.Word.{is_space}
use Rattle.serde_json.specs.Data.{Data}
use Rattle.piece_files.specs.declared.file_fault.FileFault.{FileFault}
use Rattle.piece_files.specs.declared.file_fault.FileFault.TheVariants.{Member, Limit}
use Rattle.piece_files.specs.Elements.{elements_of}
use Rattle.piece_files.specs.Faults.{◌>>=◌, or_fault}
use Rattle.piece_files.specs.Json.{json_of}
use Rattle.txn_files.specs.Entries.{entry_of}
use Rattle.txn_files.specs.HistoryFile.{is_in_range}
use Rattle.txn_words.specs.declared.entry.Entry.{Entry}

-- The greatest number of bytes of a line, without its line feed.
abbrev pub max_line : ℕ
max_line = 1000

-- Whether a line has only white space.
abbrev pub is_blank : List ℕ → Bool
is_blank line = list_all is_space line

-- The entry, or the fault `Limit` if its caller or the holder that it names is out of range.
abbrev pub ranged_entry : Entry → Result (Option Entry) FileFault
ranged_entry entry = if is_in_range entry then Ok (Some entry) else Err Limit

-- The entry that was found, or a fault. The fault is `Member` if no entry was found, and `Limit` if
-- a caller is out of range.
abbrev pub entry_found : Option Entry → Result (Option Entry) FileFault
entry_found found = or_fault Member found >>= ranged_entry

-- The entry that a JSON value stands for.
abbrev pub entry_in : Data → Result (Option Entry) FileFault
entry_in d = entry_found (option_and_then entry_of (elements_of d))

-- The entry on a line, or none if the line is blank, or the line's first fault. The faults are, in
-- this order: the line is too long, it is not JSON, it stands for no entry, or a caller is out of
-- range.
unfoldable pub entry_on : List ℕ → Result (Option Entry) FileFault
entry_on line =
    if nat_le (length line) max_line
    then (if is_blank line then Ok None else json_of line >>= entry_in)
    else Err Limit
