-- The invariants of every table.
use Rattle.std.specs.Prelude.{◌≡◌, ◌%◌, List}
use Rattle.map_ops.specs.Vocabulary.{AllByRecursion, Directory, Dummy, IsHome, IsKeyed, Listing, NodeAt}
use Rattle.node_list.specs.Sound as nodes

-- If the node is a dummy, its split key is even. So a dummy is at no key's position.
abbrev pub IsEvenDummy : NodeAt → Type 0
IsEvenDummy n = n.kind ≡ Dummy → n.at.split % 2 ≡ 0

-- No dummy is at a key's position.
abbrev pub AllEven : List NodeAt → Type 0
AllEven nodes = AllByRecursion IsEvenDummy nodes

-- Each regular node is at its key's position, and no dummy is at a key's position.
pub record Belong (nodes : List NodeAt) : Type 0 where
  pub keyed : IsKeyed nodes
  pub even : AllEven nodes

-- The list is sound, the buckets belong to this list (`IsHome`), and each node is at its position.
pub record IsSound (list : Listing) (buckets : Directory) : Type 0 where
  pub sound : nodes.IsSound list
  pub home : IsHome buckets list
  pub belong : Belong list.nodes
