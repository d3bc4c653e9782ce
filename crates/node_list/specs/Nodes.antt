-- PROMISES nodes-and-cursors: Listing
-- A list and a spare as contracts see them.
use Rattle.std.specs.Prelude.{◌≡◌, ◌≢◌, ℕ, ◌+◌, ◌-◌, ◌^◌, min, List, [], ◌∷◌, Option, Some, None, Bool, true, false, ◌==◌, if◌then◌else◌, slice_index_or, ◌⊎◌, ◌&&◌, not}
use Prim.Native.Nat.{zero, suc}
use Rattle.split_key.specs.declared.sort.SortKey.{SortKey}
use Rattle.split_key.specs.Sort.{dummy_at}
use Rattle.node_list.specs.declared.node.Kind.{Kind}
use Rattle.node_list.specs.declared.node.Kind.TheVariants.{Dummy, Regular}

-- A linked node and its place.
pub record NodeAt : Type 0 where
  pub place : ℕ
  pub at : SortKey
  pub kind : Kind
  pub value : ℕ
  pub stamp : ℕ
  pub marked : Bool

-- The contents of a list: the linked nodes in order, the place of the first node, the stamps of the
-- spares, the change number, and the last stamp that was given. `out` has a spare's stamp at the
-- place that is kept for this spare, and None at all other places.
pub record Listing : Type 0 where
  pub nodes : List NodeAt
  pub head : ℕ
  pub out : List (Option ℕ)
  pub changes : ℕ
  pub last : ℕ

-- A spare: its place in the list, its stamp, and the contents that its node will have.
pub record SpareAt : Type 0 where
  pub place : ℕ
  pub stamp : ℕ
  pub at : SortKey
  pub kind : Kind
  pub value : ℕ

-- The node that a spare becomes.
abbrev pub filled : SpareAt → NodeAt
filled s =
    record {
      place = s.place;
      at = s.at;
      kind = s.kind;
      value = s.value;
      stamp = s.stamp;
      marked = false;
    }

-- The dummy of bucket 0.
abbrev pub first_dummy : ℕ → ℕ → NodeAt
first_dummy place stamp =
    record {
      place = place;
      at = dummy_at 0;
      kind = Dummy;
      value = 0;
      stamp = stamp;
      marked = false;
    }

-- A spare as a list gives it out. Until a caller fills it, it has the contents of the dummy of
-- bucket 0.
abbrev pub unfilled : ℕ → ℕ → SpareAt
unfilled place stamp =
    record {
      place = place;
      stamp = stamp;
      at = dummy_at 0;
      kind = Dummy;
      value = 0;
    }

-- The stamp of the spare that this place is kept for, if there is one.
abbrev pub out_at : Listing → ℕ → Option ℕ
out_at l place = slice_index_or l.out place None

-- The list still keeps this spare's place, with the spare's stamp.
abbrev pub IsOut : Listing → SpareAt → Type 0
IsOut l spare = out_at l spare.place ≡ Some spare.stamp

-- The first of these nodes, or None if there are no nodes.
abbrev pub first : List NodeAt → Option NodeAt
first [] = None
first (n ∷ rest) = Some n

-- These nodes without the first.
abbrev pub without_first : List NodeAt → List NodeAt
without_first [] = []
without_first (n ∷ rest) = rest

-- The place of a node, or None if there is no node.
abbrev pub place_of : Option NodeAt → Option ℕ
place_of None = None
place_of (Some n) = Some n.place

-- The node at a place, or None if no node is there.
unfoldable pub node_of : List NodeAt → ℕ → Option NodeAt
node_of [] place = None
node_of (n ∷ rest) place = if n.place == place then Some n else node_of rest place

-- The node right after the node at a place, or None if there is no such node.
unfoldable pub next_of : List NodeAt → ℕ → Option NodeAt
next_of [] place = None
next_of (n ∷ rest) place = if n.place == place then first rest else next_of rest place

-- One of these nodes is at the place.
unfoldable pub IsLinked : List NodeAt → ℕ → Type 0
IsLinked [] place = ⊥
IsLinked (n ∷ rest) place = (n.place ≡ place) ⊎ IsLinked rest place

-- An unmarked regular node is at the place.
pub record IsRegularAt (nodes : List NodeAt) (place : ℕ) : Type 0 where
  pub node : NodeAt
  pub is : node_of nodes place ≡ Some node
  pub regular : node.kind ≡ Regular
  pub unmarked : node.marked ≡ false

-- The node right after the node at the place is marked.
pub record IsBeforeMarked (nodes : List NodeAt) (place : ℕ) : Type 0 where
  pub node : NodeAt
  pub next : next_of nodes place ≡ Some node
  pub marked : node.marked ≡ true

-- How many of these nodes pass a test.
unfoldable pub count_where : (NodeAt → Bool) → List NodeAt → ℕ
count_where test [] = 0
count_where test (n ∷ rest) = (if test n then 1 else 0) + count_where test rest

-- Whether a node of this kind is regular.
abbrev pub is_regular : Kind → Bool
is_regular Dummy = false
is_regular Regular = true

-- Whether a node is live: regular and unmarked.
abbrev pub is_live : NodeAt → Bool
is_live n = is_regular n.kind && not n.marked

-- Whether a node is marked.
abbrev pub is_marked : NodeAt → Bool
is_marked n = n.marked

-- How many regular nodes are unmarked.
abbrev pub live_count : List NodeAt → ℕ
live_count nodes = count_where is_live nodes

-- How many nodes are marked.
abbrev pub marked_count : List NodeAt → ℕ
marked_count nodes = count_where is_marked nodes

-- The list with the node `x` added right after the node at a place.
unfoldable pub linked_after : List NodeAt → ℕ → NodeAt → List NodeAt
linked_after [] place x = []
linked_after (n ∷ rest) place x =
    if n.place == place then n ∷ (x ∷ rest) else n ∷ linked_after rest place x

-- The list without the node right after the node at a place.
unfoldable pub unlinked_after : List NodeAt → ℕ → List NodeAt
unlinked_after [] place = []
unlinked_after (n ∷ rest) place =
    if n.place == place then n ∷ without_first rest else n ∷ unlinked_after rest place

-- The list after `change` is applied to the node at a place.
unfoldable pub changed_at : List NodeAt → ℕ → (NodeAt → NodeAt) → List NodeAt
changed_at [] place change = []
changed_at (n ∷ rest) place change =
    if n.place == place then change n ∷ rest else n ∷ changed_at rest place change

-- The list after the node at a place is marked.
abbrev pub marked_at : List NodeAt → ℕ → List NodeAt
marked_at nodes place = changed_at nodes place (λ n. record n { marked = true })

-- The list after a value is written into the node at a place.
abbrev pub written_at : List NodeAt → ℕ → ℕ → List NodeAt
written_at nodes place value = changed_at nodes place (λ n. record n { value = value })

-- The change number plus one, but at most 2^64 - 1.
abbrev pub one_more : ℕ → ℕ
one_more changes = min (changes + 1) (2 ^ 64 - 1)

-- What the change number `changes` becomes after the given number of further changes.
unfoldable pub changes_after : ℕ → ℕ → ℕ
changes_after changes zero = changes
changes_after changes (suc more) = one_more (changes_after changes more)

-- One change was made: the nodes are now `after`. The list keeps the same places for spares.
pub record Becomes (old new : Listing) (after : List NodeAt) : Type 0 where
  pub nodes : new.nodes ≡ after
  pub head : new.head ≡ old.head
  pub changes : new.changes ≡ one_more old.changes
  pub last : new.last ≡ old.last
  pub out : (place : ℕ) → out_at new place ≡ out_at old place

-- One change was made: the nodes are now `after`, and the place is no longer kept for a spare.
pub record UsesSpare (old new : Listing) (after : List NodeAt) (place : ℕ) : Type 0 where
  pub nodes : new.nodes ≡ after
  pub head : new.head ≡ old.head
  pub changes : new.changes ≡ one_more old.changes
  pub last : new.last ≡ old.last
  pub gone : out_at new place ≡ None
  pub others : (other : ℕ) → other ≢ place → out_at new other ≡ out_at old other

-- The place is now kept for a spare with the stamp `stamp`, and `stamp` is the last stamp. All else
-- is unchanged.
pub record GivesOut (old new : Listing) (place stamp : ℕ) : Type 0 where
  pub nodes : new.nodes ≡ old.nodes
  pub head : new.head ≡ old.head
  pub changes : new.changes ≡ old.changes
  pub last : new.last ≡ stamp
  pub was_free : out_at old place ≡ None
  pub is_out : out_at new place ≡ Some stamp
  pub others : (other : ℕ) → other ≢ place → out_at new other ≡ out_at old other

-- The place is no longer kept for a spare. All else is unchanged.
pub record ReturnsSpare (old new : Listing) (place : ℕ) : Type 0 where
  pub nodes : new.nodes ≡ old.nodes
  pub head : new.head ≡ old.head
  pub changes : new.changes ≡ old.changes
  pub last : new.last ≡ old.last
  pub gone : out_at new place ≡ None
  pub others : (other : ℕ) → other ≢ place → out_at new other ≡ out_at old other
