-- The edges that accesses give.
use Rattle.std.specs.Prelude.{ℕ, ◌≡◌, ◌≢◌, ◌<◌, Option, Some, None, List, [], ◌∷◌, length, slice_get}
use Rattle.order_check.specs.declared.access.Access.{Access}
use Rattle.order_check.specs.declared.edge.Kind.{Kind}
use Rattle.order_check.specs.declared.edge.Kind.TheVariants.{Read, Replaced, Began}
use Rattle.order_check.specs.declared.edge.Edge.{Edge}
use Rattle.order_check.specs.declared.link.Link.{Link}
use Rattle.order_check.specs.declared.replacers.Replacers.{Replacers}
use Rattle.order_check.specs.Graphs.{Graph, HasEdge}
use Rattle.order_check.specs.Tables.{Version, DoesWrite, DoesReplace, ReplacesValue, IsAmong, Knows, replacer_in}

-- The transaction has an access that needs this value at the key.
pub record NeedsAt (accesses : List Access) (t : ℕ) (q : Version) : Type 0 where
  pub by : Access
  pub is_among : IsAmong by accesses
  pub txn_is : by.txn ≡ t
  pub key_is : by.key ≡ q.0
  pub need_is : by.need ≡ q.1

-- The transaction has an access that does it.
pub record DoesAt (does : Access → Type 0) (accesses : List Access) (t : ℕ) : Type 0 where
  pub by : Access
  pub is_among : IsAmong by accesses
  pub does_it : does by
  pub txn_is : by.txn ≡ t

-- The access with this index does it.
pub record PlacedAt (does : Access → Type 0) (accesses : List Access) (i : ℕ) : Type 0 where
  pub by : Access
  pub there : slice_get accesses i ≡ Some by
  pub does_it : does by

-- The source gives what the access needs.
abbrev pub SourceIs : List Access → Access → Option ℕ → Type 0
SourceIs accesses a None = a.need ≡ None
SourceIs accesses a (Some i) = PlacedAt (DoesWrite (a.key, a.need)) accesses i

abbrev pub txn_of : Option Access → Option ℕ
txn_of None = None
txn_of (Some a) = Some a.txn

-- The transaction of the source.
abbrev pub source_in : List Access → Option ℕ → Option ℕ
source_in accesses None = None
source_in accesses (Some i) = txn_of (slice_get accesses i)

abbrev pub AreSourced : List Access → Type 0
AreSourced accesses = (a : Access) → IsAmong a accesses → SourceIs accesses a a.source

-- No transaction has two accesses at one key.
abbrev pub AreDistinct : List Access → Type 0
AreDistinct [] = Unit {0}
AreDistinct (x ∷ xs) = ((a : Access) → IsAmong a xs → x.txn ≡ a.txn → x.key ≡ a.key → ⊥) × AreDistinct xs

-- The table knows who replaces what comes from each source.
abbrev pub AreReplacers : List Access → Replacers → Type 0
AreReplacers accesses replacers = (k : ℕ) (source : Option ℕ)
    → Knows (DoesAt (DoesReplace k source) accesses) (DoesReplace k source) accesses (replacer_in replacers k source)

-- What an edge to `u` says of the accesses, or of real time.
abbrev pub meaning_of : List Access → (ℕ → ℕ) → Kind → ℕ → Version → ℕ → Type 0
meaning_of accesses since Read t q u = DoesAt (DoesWrite q) accesses t × NeedsAt accesses u q
meaning_of accesses since Replaced t q u =
    NeedsAt accesses t q × DoesAt (ReplacesValue q) accesses u × (t ≢ u)
meaning_of accesses since Began t q u = t < since u

-- The version that an edge is about: what its access needs. One of real time is about none.
abbrev pub version_in : Option Access → Version
version_in None = (0, None)
version_in (Some a) = (a.key, a.need)

abbrev pub version_at : List Access → Kind → ℕ → Version
version_at accesses Began i = (0, None)
version_at accesses kind i = version_in (slice_get accesses i)

abbrev pub version_of : List Access → Link → Version
version_of accesses l = version_at accesses l.kind l.index

-- The edge that a link stands for.
abbrev pub edge_of : List Access → Link → Edge
edge_of accesses l = record {
  from = l.from;
  kind = l.kind;
  key = (version_of accesses l).0;
  value = (version_of accesses l).1;
}

abbrev pub Means : List Access → (ℕ → ℕ) → Link → ℕ → Type 0
Means accesses since l u = meaning_of accesses since l.kind l.from (version_of accesses l) u

-- Each edge has its meaning.
abbrev pub AreMeant : List Access → (ℕ → ℕ) → Graph → Type 0
AreMeant accesses since graph = (u : ℕ) (l : Link) → HasEdge graph l u → Means accesses since l u

-- There is an edge from one transaction to the other.
pub record IsEdge (graph : Graph) (t u : ℕ) : Type 0 where
  pub edge : Link
  pub there : HasEdge graph edge u
  pub from_is : edge.from ≡ t

-- The access has its edges: from the source of what it needs, and to the replacer of what it needs.
-- If it replaces this too, there is an edge from the first replacer as well.
pub record IsJoined (accesses : List Access) (replacers : Replacers) (graph : Graph) (a : Access) : Type 0 where
  pub reads : (t : ℕ) → source_in accesses a.source ≡ Some t → IsEdge graph t a.txn
  pub replaces : (f : ℕ) → replacer_in replacers a.key a.source ≡ Some f → a.txn ≢ f → IsEdge graph a.txn f
  pub twice : (f : ℕ) → replacer_in replacers a.key a.source ≡ Some f → a.txn ≢ f → a.need ≢ a.left → IsEdge graph f a.txn

-- All edges of `old` are edges of `new`.
abbrev pub Keeps : Graph → Graph → Type 0
Keeps old new = (u : ℕ) (l : Link) → HasEdge old l u → HasEdge new l u

-- The edges of one more access were added.
pub record EdgesOne (accesses : List Access) (replacers : Replacers) (a : Access) (old new : Graph) : Type 0 where
  pub len : length new ≡ length old
  pub keeps : Keeps old new
  pub joined : IsJoined accesses replacers new a
  pub meant : (since : ℕ → ℕ) → AreMeant accesses since old → AreMeant accesses since new
