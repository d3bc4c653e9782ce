-- PROMISES the-present-map: erase
-- Histories without their aborted transactions.
use Rattle.std.specs.Prelude.{Bool, true, not, Some, None, List, map}
use Rattle.std.specs.List.{filter}
use Rattle.txn_words.specs.declared.entry.Entry.{Entry}
use Rattle.txn_trace.specs.History.{Line, lines_of, is_aborted}

-- True if the entry's transaction is not aborted, or if the entry has no transaction.
abbrev pub is_lasting : List Entry → Line → Bool
is_lasting h line = elim line.txn [ None ↦ true | Some t ↦ not (is_aborted t h) ]

-- The history without the entries of aborted transactions.
abbrev pub erase : List Entry → List Entry
erase h = map (λ line. line.entry) (filter (is_lasting h) (lines_of h))
