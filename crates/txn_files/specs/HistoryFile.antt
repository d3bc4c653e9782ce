-- PROMISES from-words-and-bytes-to-bytes: history_of
-- Bytes as a history file: its content, or the first fault.
use Rattle.std.specs.Prelude.{ℕ, List, [], ◌∷◌, Bool, ◌-◌, ◌&&◌, nat_le, Option, None, option_map, Result, Ok, Err, if◌then◌else◌, codes}
use Rattle.std.specs.List.{list_all}
use Rattle.txn_words.specs.declared.entry.Entry.{Entry}
use Rattle.txn_words.specs.declared.entry.Entry.TheVariants.{Asked, Saved, Busy}
use Rattle.serde_json.specs.Data.{Data}
use Rattle.txn_words.specs.declared.op.Op.TheVariants.{PutIf}
use Rattle.txn_words.specs.declared.holder.Holder.{Holder}
use Rattle.txn_words.specs.declared.holder.Holder.TheVariants.{Now, Begun}
use Rattle.txn_words.specs.Kinds.{caller_of}
use Rattle.txn_words.specs.Packed.{is_small}
use Rattle.txn_words.specs.Sizes.{max_callers, max_stripes}
use Rattle.piece_files.specs.declared.part.Part.TheVariants as parts
use Rattle.piece_files.specs.declared.file_fault.FileFault.{FileFault}
use Rattle.piece_files.specs.declared.file_fault.FileFault.TheVariants.{Member, Limit}
use Rattle.piece_files.specs.Faults.{◌>>=◌}
use Rattle.piece_files.specs.Files.{FileKind, contents}
use Rattle.txn_files.specs.Entries.{entry_of, is_old_entry}

-- The largest number that a caller may have.
abbrev pub max_caller : ℕ
max_caller = max_callers - 1

-- The most entries that a file may have.
abbrev pub max_entries : ℕ
max_entries = 1000000

-- The file kind of history files.
abbrev pub history_file : FileKind Entry
history_file = record {
  numbers = codes "stripes" ∷ [];
  pieces = codes "entries";
  of = entry_of;
  is_old = is_old_entry;
  part = parts.Entry;
  most = max_entries;
}

-- True if the caller of an entry is in range. For a Busy entry the holder that it names must be in
-- range too.
abbrev pub is_in_range : Entry → Bool
is_in_range (Busy c op x) = nat_le c max_caller && nat_le x max_caller
is_in_range e = nat_le (caller_of e) max_caller

-- Whether the number of stripes and the callers of a history are in range.
abbrev pub is_history : ℕ → List Entry → Bool
is_history stripes entries =
    nat_le 1 stripes && nat_le stripes max_stripes && list_all is_in_range entries

-- Makes the content of a history file from its version, its numbers and its entries. The content is
-- the number of stripes (the only number), the entries and the version.
unfoldable pub entries_from : ℕ → List ℕ → List Entry → Result (ℕ × List Entry × ℕ) FileFault
entries_from version (stripes ∷ []) entries =
    if is_history stripes entries then Ok (stripes, entries, version) else Err Limit
entries_from version other entries = Err Member

-- Reads the bytes as a history file. The result is its number of stripes, its entries and its
-- version, or the first fault.
abbrev pub history_of : List ℕ → Result (ℕ × List Entry × ℕ) FileFault
history_of bytes = contents history_file bytes >>= λ file. entries_from file.0 file.1 file.2

-- The rule for the caller that a Busy entry names in a history file of this version. In versions 1
-- and 2 this caller holds the stripe. In later versions it has begun a transaction.
abbrev pub holder_rule : ℕ → Holder
holder_rule version = if nat_le version 2 then Now else Begun

-- The entry that a reader keeps for the entry `e`. If `e` is small enough to be packed, this is `e`
-- itself. Otherwise `e` is out of range, and a substitute is kept in its place. The substitute is
-- out of range too. Version 1 allows the substitute exactly if it allows `e`.
abbrev pub kept : Entry → Entry
kept e =
    if is_small e then e
    else if is_old_entry e then Saved 65535
    else Asked 65535 (PutIf 0 None 0)

-- Reads the elements of an array as an entry, and applies `kept` to the entry.
unfoldable pub kept_of : List Data → Option Entry
kept_of ds = option_map kept (entry_of ds)

-- History files as `history_file` describes them, but with `kept` applied to each entry.
abbrev pub kept_file : FileKind Entry
kept_file = record {
  numbers = codes "stripes" ∷ [];
  pieces = codes "entries";
  of = kept_of;
  is_old = is_old_entry;
  part = parts.Entry;
  most = max_entries;
}

-- Reads the bytes as a history file, and applies `kept` to each entry. The result equals that of
-- `history_of`.
abbrev pub kept_history_of : List ℕ → Result (ℕ × List Entry × ℕ) FileFault
kept_history_of bytes =
    contents kept_file bytes >>= λ file. entries_from file.0 file.1 file.2
