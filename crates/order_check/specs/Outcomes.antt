-- What the outcome of the judge means.
use Rattle.std.specs.Prelude.{ℕ, ◌≡◌, ◌==◌, ◌<◌, ◌&&◌, Bool, true, Option, Some, None, is_some, List, [], ◌∷◌, length, slice_get, if◌then◌else◌}
use Rattle.std.specs.HashMap.{HashMap, get as told_at}
use Rattle.order_check.specs.declared.access.Access.{Access}
use Rattle.order_check.specs.declared.outcome.Outcome.{Outcome}
use Rattle.order_check.specs.declared.outcome.Outcome.TheVariants.{Order, Unwritten, Impossible, Cycle, Ambiguous}
use Rattle.order_check.specs.declared.link.Link.{Link}
use Rattle.order_check.specs.declared.edge.Kind.{Kind}
use Rattle.order_check.specs.declared.edge.Kind.TheVariants.{Began}
use Rattle.order_check.specs.declared.table.Doer.{Doer}
use Rattle.order_check.specs.Footprints.{Cell, Footprint}
use Rattle.order_check.specs.Forces.{Forces}
use Rattle.order_check.specs.Graphs.{IsCycle, Graph, HasEdge}
use Rattle.order_check.specs.Orders.{IsOrderOf, HasNoOrder}
use Rattle.order_check.specs.Tables.{Version, version_eq, IsAmong, DoesWrite, DoesBeside}
use Rattle.order_check.specs.Joined.{NeedsAt, DoesAt, AreDistinct, AreSourced, source_in, version_of}
use Rattle.std.specs.List.{range_with_len}
use Rattle.order_check.specs.Choices.{IsUnwritten}
use Rattle.order_check.specs.InTurn.{AreRising}
use mathlib.Core.Logic.{◌⊎◌}

abbrev pub cell_of : Access → Cell
cell_of a = record { need = a.need; now = a.left }

-- The footprint of each transaction.
abbrev pub footprints_of : List Access → ℕ → Footprint
footprints_of [] t k = None
footprints_of (a ∷ rest) t k = if (a.txn == t) && (a.key == k) then Some (cell_of a) else footprints_of rest t k

-- The source of each need: the access's index.
abbrev pub indices_of : List Access → ℕ → ℕ → Option ℕ
indices_of [] t k = None
indices_of (a ∷ rest) t k = if (a.txn == t) && (a.key == k) then a.source else indices_of rest t k

-- The transaction.
abbrev pub sources_of : List Access → ℕ → ℕ → Option ℕ
sources_of accesses t k = source_in accesses (indices_of accesses t k)

-- The accesses of so many transactions, one transaction after the other. Their sources mean nothing.
pub record ArePlain (count : ℕ) (accesses : List Access) : Type 0 where
  pub below : (a : Access) → IsAmong a accesses → a.txn < count
  pub distinct : AreDistinct accesses
  pub rising : AreRising 0 accesses

-- The accesses of so many transactions.
pub record AreAccesses (count : ℕ) (accesses : List Access) : Type 0 where
  pub below : (a : Access) → IsAmong a accesses → a.txn < count
  pub distinct : AreDistinct accesses
  pub sourced : AreSourced accesses

abbrev pub IsTxn : ℕ → ℕ → Type 0
IsTxn count t = t < count

-- Whether the value comes only once, if this is what is known of its writers.
abbrev pub comes_once : Option Doer → Option ℕ → Bool
comes_once None v = true
comes_once (Some d) v = is_some v && d.is_only

-- Whether an edge of this kind holds in every order, if this is what is known of the writers of its
-- value. An edge of real time has no value.
abbrev pub holds_always : Kind → Option Doer → Option ℕ → Bool
holds_always Began o v = true
holds_always kind o v = comes_once o v

abbrev pub is_once : {S : Type 0} → List Access → HashMap Version Doer S → Link → Bool
is_once accesses writers l =
    holds_always l.kind (told_at version_eq writers (version_of accesses l)) (version_of accesses l).1

abbrev pub IsOnce : {S : Type 0} → List Access → HashMap Version Doer S → Link → Type 0
IsOnce accesses writers l = is_once accesses writers l ≡ true

-- These edges are some of the others, and each of them holds in every order.
abbrev pub AreOnce : {S : Type 0} → List Access → HashMap Version Doer S → List Link → List Link → Type 0
AreOnce accesses writers all kept = (n : ℕ) (l : Link) → slice_get kept n ≡ Some l
    → (m : ℕ) × (slice_get all m ≡ Some l) × IsOnce accesses writers l

-- The same for all transactions.
pub record AreCertain {S : Type 0} (accesses : List Access) (writers : HashMap Version Doer S) (all kept : Graph) : Type 0 where
  pub len : length kept ≡ length all
  pub certain : (u : ℕ) (l : Link) → HasEdge kept l u → HasEdge all l u × IsOnce accesses writers l

-- The value comes more than once: two transactions write it, or a transaction makes the key absent,
-- as it was at the beginning.
abbrev pub IsRepeated : List Access → Version → Type 0
IsRepeated accesses q =
    (t : ℕ) × DoesAt (DoesWrite q) accesses t
    × ((q.1 ≡ None) ⊎ DoesBeside (DoesWrite q) accesses t)

-- One of the transactions needs the value of the access, and there is no order.
abbrev pub IsImpossible : ℕ → (ℕ → ℕ) → List Access → Access → Type 0
IsImpossible count since accesses a =
    NeedsAt accesses a.txn (a.key, a.need) × HasNoOrder (IsTxn count) (footprints_of accesses) since

-- The outcome on the accesses of so many transactions.
abbrev pub IsOutcome : ℕ → (ℕ → ℕ) → List Access → Outcome → Type 0
IsOutcome count since accesses (Order ts) =
    IsOrderOf (IsTxn count) (footprints_of accesses) since ts.items
IsOutcome count since accesses (Unwritten a) =
    IsUnwritten accesses a × HasNoOrder (IsTxn count) (footprints_of accesses) since
IsOutcome count since accesses (Impossible a) = IsImpossible count since accesses a
IsOutcome count since accesses (Cycle ls) =
    IsCycle (Forces (footprints_of accesses) since) ls.items
    × HasNoOrder (IsTxn count) (footprints_of accesses) since
IsOutcome count since accesses (Ambiguous l) = IsRepeated accesses (l.key, l.value)

-- The outcome is the order of the transactions' numbers.
abbrev pub IsInTurn : ℕ → Outcome → Type 0
IsInTurn count (Order ts) = ts.items ≡ range_with_len 0 count
IsInTurn count _ = ⊥
