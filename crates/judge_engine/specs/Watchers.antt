-- The entries that a watcher has read from the bytes that it was given.
use Rattle.std.specs.Prelude.{◌≡◌, ℕ, List, ◌++◌, Option, Some, None}
use Rattle.txn_words.specs.declared.entry.Entry.{Entry}
use Rattle.piece_files.specs.declared.file_fault.FileFault.{FileFault}
use Rattle.txn_files.specs.EntryLines.{history_from, history_of_lines, split_lines}
use Rattle.judge_engine.specs.declared.basis.Basis.{Basis}
use Rattle.judge_engine.specs.declared.watcher.Watcher.{Watcher}
use Rattle.judge_engine.specs.Bases.{IsFedBy}
use Rattle.judge_engine.specs.Breaks.{IsUnbroken}

-- The entries `h` and then those of `more`, with the refused line of `more`, if there is one.
abbrev pub ahead : List Entry → List Entry × Option (ℕ × FileFault)
    → List Entry × Option (ℕ × FileFault)
ahead h more = (h ++ more.0, more.1)

-- If no line was refused, the complete lines of the bytes have the entries `h`. After these lines
-- the bytes end with `part`, the beginning of line `number`. If a line was refused, the lines
-- before it have the entries `h`, and `refused` has the line's number and its fault. In either
-- case, this stays true whatever bytes follow.
abbrev pub HasWatched : List ℕ → List Entry → List ℕ → ℕ → Option (ℕ × FileFault) → Type 0
HasWatched bytes h part number None =
    IsUnbroken part × ((more : List ℕ) → history_of_lines (bytes ++ more)
    ≡ ahead h (history_from number (split_lines (part ++ more))))
HasWatched bytes h part number (Some refused) =
    (more : List ℕ) → history_of_lines (bytes ++ more) ≡ (h, Some refused)

-- The watcher was given these bytes, and judges by these rules.
pub record TookIn (basis : Basis) (bytes : List ℕ) (watcher : Watcher) : Type 0 where
  pub entries : List Entry
  pub fed : IsFedBy basis entries watcher.judge
  pub place : HasWatched bytes entries watcher.part.items watcher.number watcher.refused
