-- PROMISES entries-as-lines: history_of_lines
-- A history as lines, one for each entry: how it is written, and how it is read.
use Rattle.std.specs.Prelude.{ℕ, ◌+◌, ◌==◌, List, [], ◌∷◌, ◌++◌, Option, Some, None, Ok, Err}
use Rattle.std.specs.List.{flat_map, slice_split}
use Rattle.piece_files.specs.declared.file_fault.FileFault.{FileFault}
use Rattle.txn_words.specs.declared.entry.Entry.{Entry}
use Rattle.txn_files.specs.EntryLine.{entry_on}
use Rattle.txn_files.specs.HistoryText.{entry_text}

-- The line of an entry: its array, and a line feed.
abbrev pub line_of : Entry → List ℕ
line_of entry = entry_text entry ++ 10 ∷ []

-- The lines of a history.
abbrev pub text_of_lines : List Entry → List ℕ
text_of_lines entries = flat_map line_of entries

-- Splits these bytes into lines at each line feed. The last line is the part after the last line
-- feed, and is empty if the bytes end with a line feed.
abbrev pub split_lines : List ℕ → List (List ℕ)
split_lines bytes = slice_split (λ byte. byte == 10) bytes

-- Reads lines up to the first line that is refused. The result is the entries on the lines before
-- it and, if a line is refused, the number and the fault of this line. The first of the given lines
-- has the number `number`. A blank line is skipped.
unfoldable pub history_from : ℕ → List (List ℕ) → List Entry × Option (ℕ × FileFault)
history_from number [] = ([], None)
history_from number (line ∷ lines) = elim (entry_on line) [
  | Err fault ↦ ([], Some (number, fault))
  | Ok None ↦ history_from (number + 1) lines
  | Ok (Some entry) ↦
      let rest = history_from (number + 1) lines in (entry ∷ rest.0, rest.1)
]

-- The entries in these bytes, one for each line that is not blank, up to the first line that is
-- refused. If a line is refused, the result also has the line's number, counted from 1, and its
-- fault.
abbrev pub history_of_lines : List ℕ → List Entry × Option (ℕ × FileFault)
history_of_lines bytes = history_from 1 (split_lines bytes)
