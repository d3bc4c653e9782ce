-- Transactions by their numbers, in place of their places in a list.
use Rattle.std.specs.Prelude.{ℕ, List, slice_index_or}
use Rattle.order_check.specs.declared.edge.Edge.{Edge}

-- The number at a place of the list.
abbrev pub name_at : List ℕ → ℕ → ℕ
name_at names place = slice_index_or names place 0

-- The edge, with the number of its transaction.
abbrev pub named_edge : List ℕ → Edge → Edge
named_edge names edge = record edge { from = name_at names edge.from }
