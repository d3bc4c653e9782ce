-- What a search for an order knows.
use Rattle.std.specs.Prelude.{ℕ, ◌≡◌, ◌<◌, ◌≤◌, reverse, Some, List, [], ◌∷◌, length, slice_get, slice_index_or}
use Rattle.order_check.specs.declared.link.Link.{Link}
use Rattle.order_check.specs.declared.search.Mark.{Mark}
use Rattle.order_check.specs.declared.search.Mark.TheVariants.{New, Open, Done}
use Rattle.order_check.specs.declared.search.Visit.{Visit}
use Rattle.order_check.specs.Lists.{IsIn, AreApart, place}
use Rattle.order_check.specs.Graphs.{Graph, edges_of}

abbrev pub unvisited : Visit
unvisited = record { mark = New; next = 0 }

abbrev pub mark_in : List Visit → ℕ → Mark
mark_in visits u = (slice_index_or visits u unvisited).mark

abbrev pub next_in : List Visit → ℕ → ℕ
next_in visits u = (slice_index_or visits u unvisited).next

-- The edge that the search follows from `u` next comes from `t`.
pub record Follows (graph : Graph) (next : ℕ → ℕ) (u t : ℕ) : Type 0 where
  pub edge : Link
  pub there : slice_get (edges_of graph u) (next u) ≡ Some edge
  pub from_is : edge.from ≡ t

-- The open transactions, newest first: each one after the first is being searched for the one before it.
abbrev pub AreChained : Graph → (ℕ → ℕ) → List ℕ → Type 0
AreChained graph next [] = Unit {0}
AreChained graph next (t ∷ []) = Unit {0}
AreChained graph next (t ∷ u ∷ us) = Follows graph next u t × AreChained graph next (u ∷ us)

-- `path` has the open transactions, newest first, and `order` those that are done, oldest first.
pub record Searches (graph : Graph) (mark : ℕ → Mark) (next : ℕ → ℕ) (path order : List ℕ) : Type 0 where
  pub in_order : (u : ℕ) → IsIn u order → (u < length graph) × (mark u ≡ Done)
  pub done : (u : ℕ) → mark u ≡ Done → IsIn u order
  pub apart : AreApart order
  pub early : (u j : ℕ) (l : Link) → IsIn u order → slice_get (edges_of graph u) j ≡ Some l
      → IsIn l.from order × (place l.from order < place u order)
  pub in_path : (u : ℕ) → IsIn u path → (u < length graph) × (mark u ≡ Open)
  pub going : (u : ℕ) → mark u ≡ Open → IsIn u path
  pub path_apart : AreApart path
  pub followed : (u j : ℕ) (l : Link) → IsIn u path → slice_get (edges_of graph u) j ≡ Some l
      → j < next u → mark l.from ≡ Done
  pub chained : AreChained graph next path
  pub fresh : (u : ℕ) → mark u ≡ New → next u ≡ 0
  pub within : (u : ℕ) → next u ≤ length (edges_of graph u)

-- What the search knows, with its lists as the code has them: `path` has the newest last.
pub record IsSearch (graph : Graph) (visits : List Visit) (path order : List ℕ) : Type 0 where
  pub len : length visits ≡ length graph
  pub searches : Searches graph (mark_in visits) (next_in visits) (reverse path) order

-- Who was visited before is visited after.
abbrev pub StaysVisited : List Visit → List Visit → Type 0
StaysVisited old new = (u : ℕ) → mark_in new u ≡ New → mark_in old u ≡ New

-- The next edge of the newest open transaction comes from a transaction that is open.
pub record MeetsOpen (graph : Graph) (next : ℕ → ℕ) (path : List ℕ) : Type 0 where
  pub top : ℕ
  pub rest : List ℕ
  pub path_is : path ≡ top ∷ rest
  pub from : ℕ
  pub leads : Follows graph next top from
  pub is_in : IsIn from path

abbrev pub IsStuck : Graph → List Visit → List ℕ → Type 0
IsStuck graph visits path = MeetsOpen graph (next_in visits) (reverse path)
