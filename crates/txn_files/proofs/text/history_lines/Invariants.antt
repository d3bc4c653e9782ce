use Rattle.std.proofs.Common.{◌≡◌, take}
use Rattle.std.specs.Prelude.{string_bytes}
use Rattle.txn_files.specs.EntryLines.{text_of_lines}
use Rattle.txn_files.proofs.text.history_lines.Given as goal

abbrev pub invariant-loop-entry : goal.invariant-loop-entry
invariant-loop-entry l = string_bytes l.text ≡ text_of_lines (take l.entry-index l.entries)
