-- What is kept of real time.
use Rattle.std.specs.Prelude.{ℕ, ◌≡◌, ◌<◌, ◌≤◌, Bool, List, length, slice_index_or}
use mathlib.Core.Logic.{◌⊎◌}
use Rattle.txn_words.specs.declared.entry.Entry.{Entry}
use Rattle.txn_trace.specs.History.{commits}
use Rattle.order_check.specs.declared.access.Access.{Access}
use Rattle.order_check.specs.declared.link.Link.{Link}
use Rattle.order_check.specs.declared.edge.Kind.TheVariants.{Began}
use Rattle.order_check.specs.Graphs.{Graph, HasEdge}
use Rattle.order_check.specs.declared.replacers.Replacers.{Replacers}
use Rattle.order_check.specs.Joined.{AreMeant, IsEdge, IsJoined, Keeps}
use Rattle.order_check.specs.Lists.{place}
use Rattle.order_check.specs.RealTime.{IsEarlierIf}
use Rattle.order_check.specs.Tables.{IsAmong}

-- `n` transactions had committed when `u` began, or none of them counts.
pub record IsSince (real_time : Bool) (h : List Entry) (u n : ℕ) : Type 0 where
  pub below : n ≤ length (commits h)
  pub to : (t : ℕ) → IsEarlierIf real_time h t u → place t (commits h) < n
  pub from : (t : ℕ) → place t (commits h) < n → IsEarlierIf real_time h t u

-- How many transactions had committed when this one began, by a list.
abbrev pub since_in : List ℕ → ℕ → ℕ
since_in since u = slice_index_or since u 0

-- The list is of so many transactions. Each of them began after earlier ones only.
pub record IsTiming (count : ℕ) (since : List ℕ) : Type 0 where
  pub len : length since ≡ count
  pub early : (u : ℕ) → since_in since u ≤ u

-- The same, and no caller has begun its transaction after more than all that are committed.
pub record AreBegun (count : ℕ) (since begun : List ℕ) : Type 0 where
  pub timing : IsTiming count since
  pub within : (c : ℕ) → slice_index_or begun c 0 ≤ count

-- An edge of real time from a transaction.
abbrev pub time_edge : ℕ → Link
time_edge t = record { from = t; kind = Began; index = 0 }

-- One of the edges of `u`, or an edge of real time to it.
abbrev pub Leads : (ℕ → ℕ) → Graph → Link → ℕ → Type 0
Leads since graph l u = HasEdge graph l u ⊎ ((l.kind ≡ Began) × (l.from < since u))

-- There is an edge from `t` to `u`, or a transaction between them: it began after `t` had committed,
-- and had committed when `u` began.
abbrev pub IsTimed : (ℕ → ℕ) → Graph → ℕ → ℕ → Type 0
IsTimed since graph t u = IsEdge graph t u ⊎ ((v : ℕ) × (v < since u) × (t < since v))

-- The edges of real time that lead to `to` were added: one from each transaction from `start` on, up
-- to `end`.
pub record AddsTimes (start end to : ℕ) (old new : Graph) : Type 0 where
  pub len : length new ≡ length old
  pub keeps : Keeps old new
  pub there : (t : ℕ) → start ≤ t → t < end → IsEdge new t to
  pub only : (u : ℕ) (l : Link) → HasEdge new l u
      → HasEdge old l u ⊎ ((u ≡ to) × (l.kind ≡ Began) × (l.from < end))

-- The edges of real time were added, those of transactions without one between them at least.
pub record AreTimed (since : ℕ → ℕ) (old new : Graph) : Type 0 where
  pub len : length new ≡ length old
  pub keeps : Keeps old new
  pub timed : (t u : ℕ) → t < since u → IsTimed since new t u
  pub only : (u : ℕ) (l : Link) → HasEdge new l u
      → HasEdge old l u ⊎ ((l.kind ≡ Began) × (l.from < since u))

-- The edges of so many transactions: each has its meaning, each access has its edges, and so has
-- real time.
pub record IsGraphOf (count : ℕ) (since : ℕ → ℕ) (accesses : List Access) (replacers : Replacers) (graph : Graph) : Type 0 where
  pub len : length graph ≡ count
  pub meant : AreMeant accesses since graph
  pub joined : (a : Access) → IsAmong a accesses → IsJoined accesses replacers graph a
  pub timed : (t u : ℕ) → t < since u → IsTimed since graph t u
