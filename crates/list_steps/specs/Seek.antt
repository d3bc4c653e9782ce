-- The effect of a seek on the nodes.
use Rattle.std.specs.Prelude.{◌≡◌, ℕ, List, [], ◌∷◌, Some, false, ◌==◌, if◌then◌else◌}
use Rattle.split_key.specs.declared.sort.SortKey.{SortKey}
use Rattle.split_key.specs.Sort.{is_before, IsBefore, IsNotBefore}
use Rattle.node_list.specs.declared.node.Kind.TheVariants.{Dummy}
use Rattle.node_list.specs.Nodes.{NodeAt, Listing, node_of, out_at}

-- The node is before the position of the sort key.
abbrev pub IsBelow : NodeAt → SortKey → Type 0
IsBelow n at = IsBefore n.at at

-- The node is at the position of the sort key, or after it.
abbrev pub IsNotBelow : NodeAt → SortKey → Type 0
IsNotBelow n at = IsNotBefore n.at at

-- The nodes that remain after a seek. It unlinks each marked node that precedes the first unmarked
-- node at or after the position of the sort key.
unfoldable pub cleaned : SortKey → List NodeAt → List NodeAt
cleaned at [] = []
cleaned at (n ∷ rest) =
    if n.marked then cleaned at rest
    else (if is_before n.at at then n ∷ cleaned at rest else n ∷ rest)

-- The nodes that remain after a seek. The seek is for the sort key `at`, and begins at the place
-- `from`.
unfoldable pub sought : List NodeAt → ℕ → SortKey → List NodeAt
sought [] from at = []
sought (n ∷ rest) from at = if n.place == from then n ∷ cleaned at rest else n ∷ sought rest from at

-- The node linked at this place is a dummy before the position of the sort key.
pub record IsStart (nodes : List NodeAt) (place : ℕ) (at : SortKey) : Type 0 where
  pub node : NodeAt
  pub is : node_of nodes place ≡ Some node
  pub dummy : node.kind ≡ Dummy
  pub below : IsBelow node at

-- The node linked at this place is unmarked, and is before the position of the sort key.
pub record IsPred (nodes : List NodeAt) (place : ℕ) (at : SortKey) : Type 0 where
  pub node : NodeAt
  pub is : node_of nodes place ≡ Some node
  pub unmarked : node.marked ≡ false
  pub below : IsBelow node at

-- Everything but the nodes and the change number is unchanged.
pub record KeepsRest (old new : Listing) : Type 0 where
  pub head : new.head ≡ old.head
  pub last : new.last ≡ old.last
  pub out : (place : ℕ) → out_at new place ≡ out_at old place
