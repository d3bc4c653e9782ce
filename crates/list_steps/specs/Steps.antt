-- PROMISES nodes-and-cursors: Links
-- The effect of each step on a list.
use Rattle.std.specs.Prelude.{◌≡◌, ◌≢◌, ℕ, List, [], ◌∷◌, Option, Some, None, true, false, Contains, IsSomeAnd, if◌then◌else◌}
use Rattle.std.specs.List.{AllByRecursion}
use Rattle.node_list.specs.declared.node.Kind.TheVariants.{Regular}
use Rattle.split_key.specs.Sort.{IsBefore}
use Rattle.node_list.specs.Nodes.{NodeAt, Listing, Becomes, UsesSpare, node_of, linked_after, marked_at, written_at}
use Rattle.node_list.specs.Order.{IsVacant}
use Rattle.list_steps.specs.declared.cursor.Cursor.{Cursor}
use Rattle.list_steps.specs.declared.sweeps.SweepOutcome.{SweepOutcome}
use Rattle.list_steps.specs.declared.sweeps.SweepOutcome.TheVariants.{Swept, Clean}
use Rattle.list_steps.specs.Content.{pairs, pair_of, Replaces}
use Rattle.list_steps.specs.Found.{at_of, pred_of, node_there}

-- The node with the sort key sought is at the place, and is unmarked. If the node is regular, its
-- pair is in the content.
pub record IsThere (l : Listing) (c : Cursor) (place : ℕ) : Type 0 where
  pub node : NodeAt
  pub there : node_there l c ≡ Some node
  pub is : node_of l.nodes place ≡ Some node
  pub at : node.at ≡ at_of c
  pub unmarked : node.marked ≡ false
  pub content : node.kind ≡ Regular → Contains (pairs l.nodes) (node.at.key, node.value)

-- No linked node has the sort key sought. A node with this key belongs right after the cursor's
-- first node.
pub record IsAbsent (l : Listing) (c : Cursor) : Type 0 where
  pub none : node_there l c ≡ None
  pub vacant : IsVacant l.nodes (pred_of c) (at_of c)
  pub others : AllByRecursion (λ n. n.at ≢ at_of c) l.nodes

-- The result of `look`: the place of the node with the sort key sought, or `None` if no node has
-- it.
abbrev pub Finds : Listing → Cursor → Option ℕ → Type 0
Finds l c None = IsAbsent l c
Finds l c (Some place) = IsThere l c place

-- The new node is linked right after the node at the place `pred`.
pub record Links (old new : Listing) (pred : ℕ) (node : NodeAt) : Type 0 where
  pub takes : UsesSpare old new (linked_after old.nodes pred node) node.place
  pub linked : node_of new.nodes node.place ≡ Some node
  pub content : Replaces (pairs old.nodes) (pairs new.nodes) [] (pair_of node)

-- The regular node at the place had this value, and is now marked.
pub record Marks (old new : Listing) (place value : ℕ) : Type 0 where
  pub node : NodeAt
  pub is : node_of old.nodes place ≡ Some node
  pub regular : node.kind ≡ Regular
  pub value_is : node.value ≡ value
  pub becomes : Becomes old new (marked_at old.nodes place)
  pub content : Replaces (pairs old.nodes) (pairs new.nodes) ((node.at.key, value) ∷ []) []

-- The regular node at the place had the value `was`, and now has the value `now`.
pub record Swaps (old new : Listing) (place was now : ℕ) : Type 0 where
  pub node : NodeAt
  pub is : node_of old.nodes place ≡ Some node
  pub regular : node.kind ≡ Regular
  pub value_is : node.value ≡ was
  pub becomes : Becomes old new (written_at old.nodes place now)
  pub content : Replaces (pairs old.nodes) (pairs new.nodes)
      ((node.at.key, was) ∷ []) ((node.at.key, now) ∷ [])

-- The node with the sort key sought had the value `value`, and is now marked.
abbrev pub MarksThere : Listing → Listing → Cursor → ℕ → Type 0
MarksThere old new c value = IsSomeAnd (node_there old c) (λ n. Marks old new n.place value)

-- The node with the sort key sought had the value `was`, and now has the value `now`.
abbrev pub SwapsThere : Listing → Listing → Cursor → ℕ → ℕ → Type 0
SwapsThere old new c was now = IsSomeAnd (node_there old c) (λ n. Swaps old new n.place was now)

-- The node linked at this place precedes all marked nodes.
pub record IsBeforeMarks (nodes : List NodeAt) (place : ℕ) : Type 0 where
  pub node : NodeAt
  pub is : node_of nodes place ≡ Some node
  pub before : AllByRecursion (λ n. n.marked ≡ true → IsBefore node.at n.at) nodes

-- The nodes without the first marked node.
unfoldable pub without_first_marked : List NodeAt → List NodeAt
without_first_marked [] = []
without_first_marked (n ∷ rest) = if n.marked then rest else n ∷ without_first_marked rest

-- `Swept`: the first marked node has been unlinked. `Clean`: nothing has changed.
abbrev pub Sweeps : Listing → Listing → SweepOutcome → Type 0
Sweeps old new Swept = Becomes old new (without_first_marked old.nodes)
Sweeps old new Clean = new ≡ old
