-- The dummies of a list.
use Rattle.std.specs.Prelude.{◌≡◌, ℕ, List, [], ◌∷◌, Some, Bool, false, ◌&&◌, ◌||◌, not}
use Rattle.std.specs.List.{AllByRecursion}
use Rattle.node_list.specs.declared.node.Kind.TheVariants.{Dummy, Regular}
use Rattle.node_list.specs.Nodes.{NodeAt, node_of, is_regular}
use Rattle.split_key.specs.Sort.{IsNotBefore, dummy_at, is_same, regular_at}

-- The dummy of a bucket, unmarked and with value 0.
abbrev pub dummy_node : ℕ → ℕ → ℕ → NodeAt
dummy_node place bucket stamp = record {
  place = place;
  at = dummy_at bucket;
  kind = Dummy;
  value = 0;
  stamp = stamp;
  marked = false;
}

-- Whether a node is the dummy of a bucket.
abbrev pub is_dummy_of : ℕ → NodeAt → Bool
is_dummy_of bucket n = not (is_regular n.kind) && is_same n.at (dummy_at bucket)

-- Whether the dummy of a bucket is linked.
unfoldable pub has_dummy : List NodeAt → ℕ → Bool
has_dummy [] bucket = false
has_dummy (n ∷ rest) bucket = is_dummy_of bucket n || has_dummy rest bucket

-- The dummy of a bucket is linked at a place.
pub record IsDummyAt (nodes : List NodeAt) (place bucket : ℕ) : Type 0 where
  pub node : NodeAt
  pub is : node_of nodes place ≡ Some node
  pub kind : node.kind ≡ Dummy
  pub at : node.at ≡ dummy_at bucket

-- A dummy is linked at this place, and its position is not after the position of the bucket's
-- dummy.
pub record IsBeforeBucket (nodes : List NodeAt) (place bucket : ℕ) : Type 0 where
  pub node : NodeAt
  pub is : node_of nodes place ≡ Some node
  pub kind : node.kind ≡ Dummy
  pub at_most : IsNotBefore (dummy_at bucket) node.at

-- If the node is regular, its sort key is the one that `regular_at` gives for its key.
abbrev pub IsKeyedNode : NodeAt → Type 0
IsKeyedNode n = n.kind ≡ Regular → n.at ≡ regular_at n.at.key

-- `IsKeyedNode` holds for each node.
abbrev pub IsKeyed : List NodeAt → Type 0
IsKeyed nodes = AllByRecursion IsKeyedNode nodes
