-- The keys and values of a list, in the order of its nodes, and the effect of a step on them.
use Rattle.std.specs.Prelude.{◌≡◌, ℕ, List, [], ◌∷◌, ◌++◌, Bool, true, false}
use Rattle.node_list.specs.declared.node.Kind.{Kind}
use Rattle.node_list.specs.declared.node.Kind.TheVariants.{Dummy, Regular}
use Rattle.node_list.specs.Nodes.{NodeAt}

-- The pairs that a node with this kind, mark, key and value adds to the content: one pair if the
-- node is regular and unmarked, else none.
abbrev pub pair_if : Kind → Bool → ℕ → ℕ → List (ℕ × ℕ)
pair_if Dummy marked key value = []
pair_if Regular true key value = []
pair_if Regular false key value = (key, value) ∷ []

-- The pairs that a node adds to the content: one or none.
abbrev pub pair_of : NodeAt → List (ℕ × ℕ)
pair_of n = pair_if n.kind n.marked n.at.key n.value

-- The key and the value of each regular, unmarked node.
unfoldable pub pairs : List NodeAt → List (ℕ × ℕ)
pairs [] = []
pairs (n ∷ rest) = pair_of n ++ pairs rest

-- The stretch `was` of the list is replaced by `now`, and the rest is unchanged.
pub record Replaces (old new was now : List (ℕ × ℕ)) : Type 0 where
  pub before : List (ℕ × ℕ)
  pub after : List (ℕ × ℕ)
  pub old_is : old ≡ before ++ (was ++ after)
  pub new_is : new ≡ before ++ (now ++ after)
