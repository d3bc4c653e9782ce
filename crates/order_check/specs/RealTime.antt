-- PROMISES a-verdict-by-any-order-is-right: IsStrictlySerializable, KeepsRealTime
-- Strictly serializable histories: real time counts.
use Rattle.std.specs.Prelude.{ℕ, ◌<◌, Bool, true, false, List, [], ◌∷◌, ◌++◌}
use mathlib.Core.List.{IsPrefix}
use Rattle.txn_words.specs.declared.entry.Entry.{Entry}
use Rattle.txn_words.specs.declared.entry.Entry.TheVariants.{Began}
use Rattle.txn_words.specs.Shape.{IsShaped}
use Rattle.order_check.specs.Lists.{place}
use Rattle.order_check.specs.Serializable.{IsCommitted, IsSerialOrder, IsSerializable}

-- The transaction `t` had committed when the transaction `u` began.
pub record IsEarlier (h : List Entry) (t u : ℕ) : Type 0 where
  pub before : List Entry
  pub caller : ℕ
  pub there : IsPrefix (before ++ Began caller u ∷ []) h
  pub committed : IsCommitted before t

-- A committed transaction comes after all that had committed when it began.
abbrev pub KeepsRealTime : List Entry → List ℕ → Type 0
KeepsRealTime h ts =
    (t u : ℕ) → IsCommitted h u → IsEarlier h t u → place t ts < place u ts

-- A history is strictly serializable if it has the right shape, and a serial order that keeps real
-- time.
pub record IsStrictlySerializable (h : List Entry) : Type 0 where
  pub shape : IsShaped h
  pub order : List ℕ
  pub in_order : IsSerialOrder h order
  pub in_time : KeepsRealTime h order

-- The same for both judges: the plain one, and the one for which real time counts.
abbrev pub IsEarlierIf : Bool → List Entry → ℕ → ℕ → Type 0
IsEarlierIf false h t u = ⊥
IsEarlierIf true h t u = IsEarlier h t u

abbrev pub IsSerialOrderIf : Bool → List Entry → List ℕ → Type 0
IsSerialOrderIf false h ts = IsSerialOrder h ts
IsSerialOrderIf true h ts = IsSerialOrder h ts × KeepsRealTime h ts

abbrev pub IsSerializableIf : Bool → List Entry → Type 0
IsSerializableIf false h = IsSerializable h
IsSerializableIf true h = IsStrictlySerializable h
