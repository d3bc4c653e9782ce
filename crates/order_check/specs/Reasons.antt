-- PROMISES a-verdict-by-any-order-is-right: IsForced, IsRepeated, AreWriters
-- Why a history is not serializable: what its transactions need and leave, and which of them must
-- come first in every order.
use Rattle.std.specs.Prelude.{ℕ, ◌≡◌, ◌≢◌, ◌<◌, ◌⊎◌, Bool, false, Option, None, Some, List, [], ◌∷◌, ◌++◌, length}
use mathlib.Core.List.{IsPrefix}
use Rattle.txn_words.specs.declared.entry.Entry.{Entry}
use Rattle.txn_words.specs.Map.{Map, get}
use Rattle.txn_words.specs.Shape.{is_shaped, IsShaped}
use Rattle.txn_trace.specs.Alone.{AloneRun, alone}
use Rattle.txn_trace.specs.History.{of, commits}
use Rattle.order_check.specs.declared.edge.Kind.{Kind}
use Rattle.order_check.specs.declared.edge.Kind.TheVariants.{Read, Replaced, Began}
use Rattle.order_check.specs.declared.edge.Edge.{Edge}
use Rattle.order_check.specs.Lists.{IsIn, place}
use Rattle.order_check.specs.Serializable.{IsCommitted}
use Rattle.order_check.specs.RealTime.{IsEarlierIf}

-- The entry with this index is the first one of the wrong shape.
pub record IsMisshapenAt (h : List Entry) (index : ℕ) : Type 0 where
  pub before : List Entry
  pub entry : Entry
  pub there : IsPrefix (before ++ entry ∷ []) h
  pub index_is : length before ≡ index
  pub shape : IsShaped before
  pub wrong : is_shaped before entry ≡ false

-- A run of the transaction alone, on some map, with the replies that it has in the history.
pub record RunOf (h : List Entry) (t : ℕ) : Type 0 where
  pub first : Map
  pub last : AloneRun
  pub is : alone first (of t h) ≡ Some last

-- The transaction needs the value at the key: it gets its replies only on maps that have this value
-- there.
abbrev pub NeedsValue : List Entry → ℕ → ℕ → Option ℕ → Type 0
NeedsValue h t k v = (run : RunOf h t) → get run.first k ≡ v

-- The transaction writes the value: it leaves the value at the key, where it needs another one.
abbrev pub WritesValue : List Entry → ℕ → ℕ → Option ℕ → Type 0
WritesValue h t k v = (run : RunOf h t) → (get run.first k ≢ v) × (get run.last.last k ≡ v)

-- The transaction replaces the value: it needs the value at the key, and leaves another one.
abbrev pub ReplacesValue : List Entry → ℕ → ℕ → Option ℕ → Type 0
ReplacesValue h t k v = (run : RunOf h t) → (get run.first k ≡ v) × (get run.last.last k ≢ v)

-- The transaction may write the value: it has a run that does.
abbrev pub MayWrite : List Entry → ℕ → ℕ → Option ℕ → Type 0
MayWrite h t k v = (run : RunOf h t) × (get run.first k ≢ v) × (get run.last.last k ≡ v)

-- No committed transaction writes the value.
abbrev pub IsUnwritten : List Entry → ℕ → Option ℕ → Type 0
IsUnwritten h k v = (t : ℕ) → IsCommitted h t → MayWrite h t k v → ⊥

-- The key gets this value at most once. At most one committed transaction writes the value. No
-- committed transaction makes the key absent, since all keys are absent at the beginning.
pub record ComesOnce (h : List Entry) (k : ℕ) (v : Option ℕ) : Type 0 where
  pub one : (t u : ℕ) → IsCommitted h t → IsCommitted h u → MayWrite h t k v → MayWrite h u k v
      → t ≡ u
  pub fresh : v ≡ None → IsUnwritten h k v

-- Why `t` comes before `u` in every order. The value comes only once, and `u` reads it where `t`
-- writes it, or replaces it where `t` reads it. Or `t` had committed when `u` began, if real time
-- counts.
abbrev pub says : Bool → Kind → List Entry → ℕ → ℕ → ℕ → Option ℕ → Type 0
says real_time Read h t u k v = ComesOnce h k v × WritesValue h t k v × NeedsValue h u k v
says real_time Replaced h t u k v =
    ComesOnce h k v × (t ≢ u) × NeedsValue h t k v × ReplacesValue h u k v
says real_time Began h t u k v = IsEarlierIf real_time h t u

-- The edge leads to `u`. Both transactions are committed. The edge says why the first one comes
-- before `u` in every order.
pub record IsForced (real_time : Bool) (h : List Entry) (edge : Edge) (u : ℕ) : Type 0 where
  pub first : IsCommitted h edge.from
  pub second : IsCommitted h u
  pub why : says real_time edge.kind h edge.from u edge.key edge.value

-- The value comes more than once: two committed transactions write it, or a committed transaction
-- makes the key absent.
pub record IsRepeated (h : List Entry) (k : ℕ) (v : Option ℕ) : Type 0 where
  pub txn : ℕ
  pub committed : IsCommitted h txn
  pub writes : WritesValue h txn k v
  pub again : (v ≡ None) ⊎ ((u : ℕ) × IsCommitted h u × (u ≢ txn) × WritesValue h u k v)

-- The list has the transactions in the order of their commits, and none twice.
abbrev pub AreInOrder : List Entry → List ℕ → Type 0
AreInOrder h [] = Unit {0}
AreInOrder h (t ∷ ts) =
    ((u : ℕ) → IsIn u ts → place t (commits h) < place u (commits h)) × AreInOrder h ts

-- The list has each committed transaction that writes the value once, and no other, in the order of
-- their commits.
pub record AreWriters (h : List Entry) (k : ℕ) (v : Option ℕ) (ts : List ℕ) : Type 0 where
  pub only : (t : ℕ) → IsIn t ts → IsCommitted h t × WritesValue h t k v
  pub all : (t : ℕ) → IsCommitted h t → MayWrite h t k v → IsIn t ts
  pub in_order : AreInOrder h ts
