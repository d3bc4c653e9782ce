-- The number of marked nodes in each region of the order.
use Rattle.std.specs.Prelude.{◌≡◌, ◌≢◌, ℕ, ◌+◌, ◌*◌, ◌/◌, ◌^◌, ◌<◌, ◌≤◌, List, [], ◌∷◌, Option, Some, None, Bool, true, length, ◌==◌, ◌&&◌, if◌then◌else◌, slice_index_or}
use Rattle.std.specs.List.{AllByRecursion}
use Prim.Native.Nat.{zero, suc}
use Rattle.node_list.specs.Nodes.{NodeAt, count_where}

-- The count of all regions together, and the count of each region.
pub record TallyAt : Type 0 where
  pub total : ℕ
  pub counts : List ℕ

-- The region of a split key.
abbrev pub region_of : ℕ → ℕ
region_of split = split / 2 ^ 52

-- The count of a region.
abbrev pub count_in : TallyAt → ℕ → ℕ
count_in t region = slice_index_or t.counts region 0

-- The sum of a run of counts, given the place of the first count and the number of counts.
unfoldable pub run_sum : List ℕ → ℕ → ℕ → ℕ
run_sum counts from zero = 0
run_sum counts from (suc more) = run_sum counts from more + slice_index_or counts (from + more) 0

-- Each group's count is the sum of the counts of its 64 regions. The total is the sum of the counts
-- of the 64 groups.
pub record IsSummed (total : ℕ) (groups regions : List ℕ) : Type 0 where
  pub groups_in : length groups ≡ 64
  pub regions_in : length regions ≡ 64 * 64
  pub by_group : (group : ℕ) → group < 64
      → slice_index_or groups group 0 ≡ run_sum regions (group * 64) 64
  pub in_all : total ≡ run_sum groups 0 64

-- Among the 64 counts from `from` on, the first that is not 0 is at this place.
pub record IsFirstOfRun (counts : List ℕ) (from place : ℕ) : Type 0 where
  pub not_before : from ≤ place
  pub within : place < from + 64
  pub some : slice_index_or counts place 0 ≢ 0
  pub none_before : (other : ℕ) → from ≤ other → other < place → slice_index_or counts other 0 ≡ 0

-- `split` is the lowest split key of the first region whose count is not 0.
pub record IsFirstCounted (t : TallyAt) (split : ℕ) : Type 0 where
  pub region : ℕ
  pub is : split ≡ region * 2 ^ 52
  pub some : count_in t region ≢ 0
  pub none_before : (other : ℕ) → other < region → count_in t other ≡ 0

-- One if the split key is in the region, else 0.
abbrev pub one_in : ℕ → ℕ → ℕ
one_in split region = if region_of split == region then 1 else 0

-- Whether a node is marked and in a region.
abbrev pub is_marked_in : ℕ → NodeAt → Bool
is_marked_in region n = n.marked && region_of n.at.split == region

-- The count of each region is the number of these nodes that are marked and in the region.
abbrev pub IsTallied : TallyAt → List NodeAt → Type 0
IsTallied t nodes = (region : ℕ) → count_in t region ≡ count_where (is_marked_in region) nodes

-- Each marked node of the list has a split key of at least `split`.
abbrev pub AreMarksFrom : ℕ → List NodeAt → Type 0
AreMarksFrom split nodes = AllByRecursion (λ n. n.marked ≡ true → split ≤ n.at.split) nodes

-- The first marked node among these nodes, or None if no node is marked.
unfoldable pub first_marked : List NodeAt → Option NodeAt
first_marked [] = None
first_marked (n ∷ rest) = if n.marked then Some n else first_marked rest
