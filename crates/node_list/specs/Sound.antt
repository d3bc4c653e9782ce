-- The invariants of every list.
use Rattle.std.specs.Prelude.{◌≡◌, ◌≢◌, ℕ, ◌<◌, ◌≤◌, ◌-◌, ◌^◌, List, Some, false}
use Rattle.std.specs.List.{AllByRecursion}
use Rattle.split_key.specs.Sort.{dummy_at}
use Rattle.node_list.specs.declared.node.Kind.TheVariants.{Dummy}
use Rattle.node_list.specs.Nodes.{NodeAt, Listing, first, node_of, out_at}
use Rattle.node_list.specs.Order.{IsRising, IsSpread}

-- No dummy is marked.
abbrev pub AllPlain : List NodeAt → Type 0
AllPlain nodes = AllByRecursion (λ n. n.kind ≡ Dummy → n.marked ≡ false) nodes

-- The first node is the dummy of bucket 0.
pub record IsFirst (l : Listing) : Type 0 where
  pub node : NodeAt
  pub first : first l.nodes ≡ Some node
  pub is : node_of l.nodes l.head ≡ Some node
  pub at : node.at ≡ dummy_at 0
  pub kind : node.kind ≡ Dummy

-- No stamp is above the last stamp, and no two places have the same stamp.
pub record IsStamped (l : Listing) : Type 0 where
  pub bound : (place : ℕ) (n : NodeAt) → node_of l.nodes place ≡ Some n → n.stamp ≤ l.last
  pub alone : (p q : ℕ) (n m : NodeAt) → node_of l.nodes p ≡ Some n → node_of l.nodes q ≡ Some m
      → n.stamp ≡ m.stamp → p ≡ q
  pub apart : (place other : ℕ) (n : NodeAt) → node_of l.nodes place ≡ Some n
      → out_at l other ≢ Some n.stamp
  pub out_bound : (place stamp : ℕ) → out_at l place ≡ Some stamp → stamp ≤ l.last
  pub out_alone : (p q stamp : ℕ) → out_at l p ≡ Some stamp → out_at l q ≡ Some stamp → p ≡ q

-- The nodes are in order and at different places, no dummy is marked, and no stamp is used twice.
pub record IsSound (l : Listing) : Type 0 where
  pub first : IsFirst l
  pub rising : IsRising l.nodes
  pub spread : IsSpread l.nodes
  pub plain : AllPlain l.nodes
  pub stamped : IsStamped l
  pub last : l.last < 2 ^ 64 - 1
