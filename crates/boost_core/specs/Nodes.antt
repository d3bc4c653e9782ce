-- What steps do to the linked nodes and to the change number, and where the cursors of callers and
-- helpers stand. `Events` says which event does what.
use Rattle.std.specs.Prelude.{◌≡◌, ℕ, ◌-◌, ◌%◌, ◌<◌, Bool, true, false, not, List, [], ◌∷◌, ◌++◌, Option, Some, None, is_some, length, filter, nat_eq}
use Rattle.boost_core.specs.Vocabulary.{option_eq, AllByRecursion, ancestor_of, IsBefore, IsNotBefore, regular_at, dummy_at, one_more, changes_after, Op, Phase, Waiting, get, key_of, now, log_of}
use Rattle.txn_words.specs.declared.op.Op.TheVariants.{Put, Take, Get, PutIf}
use Rattle.boost_core.specs.State.{State, Node, Gap, SortKey, Owner, plain_node, marked_node, stance_in, gap_for, is_set}

-- The nodes are in rising order of their positions, and no position occurs twice.
unfoldable pub IsInOrder : List Node → Type 0
IsInOrder [] = Unit {0}
IsInOrder (n ∷ rest) = AllByRecursion (λ m. IsBefore n.at m.at) rest × IsInOrder rest

abbrev pub IsClean : List Node → Type 0
IsClean nodes = AllByRecursion (λ n. n.marked ≡ false) nodes

pub record LeavesNodes (old new : State) : Type 0 where
  pub nodes : new.nodes ≡ old.nodes
  pub changes : new.changes ≡ old.changes

-- One value is written. No node is linked, marked or unlinked, and the change number grows by one,
-- up to 2^64 - 1.
pub record Writes (old new : State) : Type 0 where
  pub nodes : new.nodes ≡ old.nodes
  pub changes : new.changes ≡ one_more old.changes

-- An unmarked node is linked at this position. No other node changes, and the change number grows
-- by one, up to 2^64 - 1.
pub record Links (old new : State) (at : SortKey) : Type 0 where
  pub front : List Node
  pub back : List Node
  pub old_is : old.nodes ≡ front ++ back
  pub new_is : new.nodes ≡ front ++ plain_node at ∷ back
  pub changes : new.changes ≡ one_more old.changes

-- The unmarked node at this position is marked. No other node changes, and the change number grows
-- by one, up to 2^64 - 1.
pub record Marks (old new : State) (at : SortKey) : Type 0 where
  pub front : List Node
  pub back : List Node
  pub old_is : old.nodes ≡ front ++ plain_node at ∷ back
  pub new_is : new.nodes ≡ front ++ marked_node at ∷ back
  pub changes : new.changes ≡ one_more old.changes

-- The first marked node is unlinked. No other node changes, and the change number grows by one, up
-- to 2^64 - 1.
pub record Sweeps (old new : State) : Type 0 where
  pub front : List Node
  pub at : SortKey
  pub back : List Node
  pub old_is : old.nodes ≡ front ++ marked_node at ∷ back
  pub new_is : new.nodes ≡ front ++ back
  pub first : IsClean front
  pub changes : new.changes ≡ one_more old.changes

abbrev pub StopsAt : SortKey → List Node → Type 0
StopsAt at [] = Unit {0}
StopsAt at (n ∷ rest) = (n.marked ≡ false) × IsNotBefore n.at at

abbrev pub is_unmarked : Node → Bool
is_unmarked n = not n.marked

-- A seek that starts at the dummy of a bucket. It passes the nodes up to the first unmarked node
-- that is not before the position sought. The marked nodes that it passes are unlinked, and no
-- other node changes. The change number grows by one for each unlinked node, up to 2^64 - 1.
pub record SeeksFrom (old new : State) (bucket : ℕ) (at : SortKey) : Type 0 where
  pub front : List Node
  pub start : Node
  pub passed : List Node
  pub back : List Node
  pub from : start.at ≡ dummy_at bucket
  pub old_is : old.nodes ≡ front ++ start ∷ (passed ++ back)
  pub new_is : new.nodes ≡ front ++ start ∷ (filter is_unmarked passed ++ back)
  pub passes : AllByRecursion (λ n. n.marked ≡ false → IsBefore n.at at) passed
  pub stops : StopsAt at back
  pub changes : new.changes ≡ changes_after old.changes (length old.nodes - length new.nodes)

-- `nearest` is the first stored bucket among `bucket`, its parent, the parent's parent and so on.
pub record IsNearest (stored : List Bool) (bucket nearest : ℕ) : Type 0 where
  pub steps : ℕ
  pub is : nearest ≡ ancestor_of steps bucket
  pub there : is_set stored nearest ≡ true
  pub nearer : (fewer : ℕ) → fewer < steps → is_set stored (ancestor_of fewer bucket) ≡ false

abbrev pub newest_key : List (ℕ × Option ℕ) → ℕ
newest_key [] = 0
newest_key (change ∷ older) = change.0

-- The key that a caller acts on next: the key of the waiting operation, or of the newest change.
abbrev pub next_key_in : Phase → List (ℕ × Option ℕ) → ℕ
next_key_in (Waiting op) log = key_of op
next_key_in phase log = newest_key log

abbrev pub next_key : State → ℕ → ℕ
next_key state c = next_key_in (stance_in state.history c).phase (log_of c state.history)

-- A seek for the key starts at the dummy of the key's bucket. If this bucket is not stored, the
-- seek starts at the dummy of the nearest ancestor that is stored.
pub record SeeksKey (old new : State) (key : ℕ) : Type 0 where
  pub bucket : ℕ
  pub nearest : IsNearest old.stored (key % old.size) bucket
  pub seeks : SeeksFrom old new bucket (regular_at key)

-- The effect of a change on the nodes. The arguments after the key are the values before and after
-- the change, or None if the key is absent.
abbrev pub Changes : State → State → ℕ → Option ℕ → Option ℕ → Type 0
Changes old new key None None = LeavesNodes old new
Changes old new key None (Some value) = Links old new (regular_at key)
Changes old new key (Some was) None = Marks old new (regular_at key)
Changes old new key (Some was) (Some value) = Writes old new

abbrev pub PutsIf : State → State → ℕ → ℕ → Option ℕ → Bool → Type 0
PutsIf old new key value before true = Changes old new key before (Some value)
PutsIf old new key value before false = LeavesNodes old new

-- The effect of an operation on the nodes. A get leaves them as they are.
abbrev pub OpDoes : State → State → Op → Type 0
OpDoes old new (Put key value) = Changes old new key (get (now old.history) key) (Some value)
OpDoes old new (Take key) = Changes old new key (get (now old.history) key) None
OpDoes old new (Get key) = LeavesNodes old new
OpDoes old new (PutIf key expected value) =
    PutsIf old new key value (get (now old.history) key)
    (option_eq nat_eq (get (now old.history) key) expected)

-- The effect of the waiting operation on the nodes.
abbrev pub OpDoesIn : State → State → Phase → Type 0
OpDoesIn old new (Waiting op) = OpDoes old new op
OpDoesIn old new phase = ⊥

-- The effect on the nodes when the newest change is taken back.
abbrev pub BackDoes : State → State → List (ℕ × Option ℕ) → Type 0
BackDoes old new [] = ⊥
BackDoes old new (change ∷ older) =
    Changes old new change.0 (get (now old.history) change.0) change.1

-- If there is a sort key, the first node has this sort key and is unmarked. If there is no sort
-- key, there is no node.
abbrev pub StartsAt : List Node → Option SortKey → Type 0
StartsAt [] None = Unit {0}
StartsAt [] (Some at) = ⊥
StartsAt (n ∷ rest) None = ⊥
StartsAt (n ∷ rest) (Some at) = n ≡ plain_node at

-- The two nodes of a gap are neighbours, and both are unmarked.
pub record AreNeighbours (nodes : List Node) (gap : Gap) : Type 0 where
  pub front : List Node
  pub back : List Node
  pub nodes_are : nodes ≡ front ++ plain_node gap.before ∷ back
  pub next : StartsAt back gap.behind

-- A node with this sort key belongs between the two nodes of the gap.
pub record IsBetween (gap : Gap) (at : SortKey) : Type 0 where
  pub before : IsBefore gap.before at
  pub behind : (next : SortKey) → gap.behind ≡ Some next → IsNotBefore next at

abbrev pub HasFit : State → Owner → Type 0
HasFit state owner = is_some (gap_for state owner) ≡ true

-- The owner's cursor fits, and stands where a node with this sort key belongs.
pub record StandsAt (state : State) (owner : Owner) (at : SortKey) : Type 0 where
  pub gap : Gap
  pub has : gap_for state owner ≡ Some gap
  pub neighbours : AreNeighbours state.nodes gap
  pub between : IsBetween gap at
