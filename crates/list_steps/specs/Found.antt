-- PROMISES nodes-and-cursors: fits, IsPlaced
-- Cursors. These definitions say when a cursor's position has just been found by a seek, when a
-- cursor was placed on the list, and when it fits.
use Rattle.std.specs.Prelude.{◌≡◌, ◌≢◌, ℕ, ◌<◌, ◌≤◌, ◌-◌, ◌^◌, min, Option, Some, None, Bool, true, false, ◌==◌, ◌&&◌, not, if◌then◌else◌, IsSomeAnd, IsTrue}
use Rattle.split_key.specs.declared.sort.SortKey.{SortKey}
use Rattle.split_key.specs.Sort.{is_same}
use Rattle.node_list.specs.Nodes.{NodeAt, Listing, node_of, next_of, out_at, is_regular}
use Rattle.list_steps.specs.declared.cursor.Cursor.{Cursor}
use Rattle.list_steps.specs.declared.cursor.Noted.{Noted}
use Rattle.list_steps.specs.Seek.{IsBelow, IsNotBelow}

-- The sort key that was sought.
abbrev pub at_of : Cursor → SortKey
at_of c = c.at

-- The change number at the end of the seek.
abbrev pub change_number_of : Cursor → ℕ
change_number_of c = c.changes

-- The place of the node before the position sought.
abbrev pub pred_of : Cursor → ℕ
pred_of c = c.pred.place

-- The node that is now right after the cursor's first node.
abbrev pub behind : Listing → Cursor → Option NodeAt
behind l c = next_of l.nodes (pred_of c)

-- The note that a cursor keeps of a node.
abbrev pub noted : Option NodeAt → Option Noted
noted None = None
noted (Some n) = Some (record { place = n.place; stamp = n.stamp })

-- The node, if there is one, is unmarked and not below the sort key.
abbrev pub IsBeyond : Option NodeAt → SortKey → Type 0
IsBeyond None at = Unit {0}
IsBeyond (Some n) at = (n.marked ≡ false) × IsNotBelow n at

-- The cursor notes two neighbours: an unmarked node below its sort key, and the next node or the
-- end. The next node, if there is one, is unmarked and not below the sort key.
pub record IsFound (l : Listing) (c : Cursor) : Type 0 where
  pub pred : NodeAt
  pub pred_is : node_of l.nodes (pred_of c) ≡ Some pred
  pub pred_noted : pred.stamp ≡ c.pred.stamp
  pub unmarked : pred.marked ≡ false
  pub below : IsBelow pred (at_of c)
  pub cur_noted : noted (behind l c) ≡ c.cur
  pub beyond : IsBeyond (behind l c) (at_of c)
  pub changes : change_number_of c ≡ l.changes

-- True if there is a node that has this stamp and is unmarked.
abbrev pub is_noted : Option NodeAt → ℕ → Bool
is_noted None stamp = false
is_noted (Some n) stamp = n.stamp == stamp && not n.marked

-- True if the node is unmarked and is the second node that the cursor noted. Also true if there is
-- no node and the cursor noted no second node.
abbrev pub is_next_noted : Option NodeAt → Option Noted → Bool
is_next_noted None None = true
is_next_noted None (Some c) = false
is_next_noted (Some n) None = false
is_next_noted (Some n) (Some c) = n.place == c.place && (n.stamp == c.stamp && not n.marked)

-- True if the cursor fits. Its first node is linked, is unmarked and has the noted stamp. The next
-- node is the noted second node, is unmarked and has the noted stamp. If no second node is noted,
-- the first node is the last of the list.
unfoldable pub fits : Listing → Cursor → Bool
fits l c = is_noted (node_of l.nodes (pred_of c)) c.pred.stamp && is_next_noted (behind l c) c.cur

-- The cursor was placed on the list, now or earlier. If the node at a noted place has the noted
-- stamp, it is the noted node. The first noted node is below the sort key, and the second is not.
-- The cursor fits as long as the list's change number is the noted one and is below 2^64 - 1. Each
-- step on the list keeps these properties.
pub record IsPlaced (l : Listing) (c : Cursor) : Type 0 where
  pub pred_known : c.pred.stamp ≤ l.last
  pub pred_apart : (place : ℕ) → out_at l place ≢ Some c.pred.stamp
  pub below : (n : NodeAt) → node_of l.nodes (pred_of c) ≡ Some n → n.stamp ≡ c.pred.stamp
      → IsBelow n (at_of c)
  pub cur_known : (cur : Noted) → c.cur ≡ Some cur → cur.stamp ≤ l.last
  pub cur_apart : (cur : Noted) (place : ℕ) → c.cur ≡ Some cur → out_at l place ≢ Some cur.stamp
  pub beyond : (m : NodeAt) (cur : Noted) → c.cur ≡ Some cur → node_of l.nodes cur.place ≡ Some m
      → m.stamp ≡ cur.stamp → IsNotBelow m (at_of c)
  pub changes_known : min (change_number_of c) (2 ^ 64 - 1) ≤ l.changes
  pub held : l.changes ≡ change_number_of c → l.changes < 2 ^ 64 - 1 → fits l c ≡ true

-- The given node if it has the sort key, else None.
abbrev pub with_key : Option NodeAt → SortKey → Option NodeAt
with_key None at = None
with_key (Some n) at = if is_same n.at at then Some n else None

-- The node with the sort key sought, if it is right after the cursor's first node.
abbrev pub node_there : Listing → Cursor → Option NodeAt
node_there l c = with_key (behind l c) (at_of c)

-- If the cursor fits, no node has the cursor's sort key.
abbrev pub IsRoomFor : Listing → Cursor → Type 0
IsRoomFor l c = fits l c ≡ true → node_there l c ≡ None

-- If the cursor fits, a regular node has the cursor's sort key.
abbrev pub IsKeyThere : Listing → Cursor → Type 0
IsKeyThere l c = fits l c ≡ true → IsSomeAnd (node_there l c) (λ n. IsTrue (is_regular n.kind))
