-- PROMISES a-verdict-by-any-order-is-right: IsSerializable, IsSerialOrder
-- Serializable histories.
use Rattle.std.specs.Prelude.{ℕ, IsSome, List, [], ◌∷◌}
use Rattle.txn_words.specs.declared.entry.Entry.{Entry}
use Rattle.txn_words.specs.Map.{Map, empty}
use Rattle.txn_words.specs.Shape.{IsShaped}
use Rattle.txn_trace.specs.History.{of, commits}
use Rattle.txn_trace.specs.Alone.{alone, map_after}
use Rattle.order_check.specs.Lists.{HasEachOnce, IsIn}

-- The transactions `ts` run alone, one after the other, the first one on the map `m`. Each of them
-- gets the replies that it has in the history.
abbrev pub RunAlone : List Entry → Map → List ℕ → Type 0
RunAlone h m [] = Unit {0}
RunAlone h m (t ∷ ts) = IsSome (alone m (of t h)) × RunAlone h (map_after m (of t h)) ts

-- The transaction is one of the committed ones.
abbrev pub IsCommitted : List Entry → ℕ → Type 0
IsCommitted h t = IsIn t (commits h)

-- The list has each committed transaction once. In this order, one after the other from the empty
-- map, each of them gets the replies that it has in the history.
pub record IsSerialOrder (h : List Entry) (ts : List ℕ) : Type 0 where
  pub each : HasEachOnce (IsCommitted h) ts
  pub replies : RunAlone h empty ts

-- A history is serializable if it has the right shape, and if there is such an order. Transactions
-- that abort or are open may have read anything.
pub record IsSerializable (h : List Entry) : Type 0 where
  pub shape : IsShaped h
  pub order : List ℕ
  pub in_order : IsSerialOrder h order
