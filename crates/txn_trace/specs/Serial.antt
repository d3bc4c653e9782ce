-- The map that the committed transactions leave.
use Rattle.std.specs.Prelude.{List}
use Rattle.std.specs.List.{fold}
use Rattle.txn_words.specs.declared.entry.Entry.{Entry}
use Rattle.txn_words.specs.Map.{Map, empty}
use Rattle.txn_trace.specs.History.{of, commits}
use Rattle.txn_trace.specs.Alone.{map_after}

-- The map that the committed transactions leave when they run alone, one after another in commit
-- order, from the empty map.
abbrev pub serial : List Entry → Map
serial h = fold (λ m t. map_after m (of t h)) empty (commits h)
