-- The invariants of every core.
use Rattle.std.specs.Prelude.{◌≡◌, ℕ, ◌+◌, ◌<◌, ◌≤◌, Bool, true, Option, Some, None, List, length, map, reverse, slice_get, vec_len, vec_capacity, sum_by, if◌then◌else◌}
use Rattle.boost_core.specs.Vocabulary.{option_map, All, Entry, Sizes, caller_of, is_began, is_commit, now, stance_after, own, how_many, log_of, holder_of, node_of, IsSound, TableAt, Cursor, NodeAt, nodes_of, content, cursor_changes, fits, size_of, stored_of, linked_of, helps_of, cursors_of, table_changes, last_of, largest_of, helper_fits}
use Rattle.std.specs.Global.{Vec}
use Rattle.txn_trace.specs.Legal.{IsLegal}
use Rattle.key_locks.specs.Locks.{holder_of as held_by}
use Rattle.list_steps.specs.Found.{pred_of, behind}
use Rattle.boost_core.specs.declared.counts.Counts.{Counts}
use Rattle.boost_core.specs.declared.session.Session.{Session}
use Rattle.boost_core.specs.State.{State, Node, Gap, Owner, Caller, Helper, holder_by}
use Rattle.boost_core.specs.Begun.{AreNoted}
use Rattle.boost_core.specs.Spares.{IsCovered}
use Rattle.boost_core.specs.Sessions.{Side, side_of, owed_of, Agrees, IsSought, times_kept, changes_of, AreDue}

-- The parts of a core: the limits, the history and its counts, the table, each caller's side, the
-- stripes' holders, the owner of the cursor that the last move placed, and whether stripes are
-- words. Left out are the room of the history, the number of entries owed, and the flags of the
-- callers that have begun a transaction.
pub record World : Type 0 where
  pub limits : Sizes
  pub history : List Entry
  pub counts : Counts
  pub table : TableAt
  pub sessions : List Session
  pub locks : List (Option ℕ)
  pub placed : Option Owner
  pub words : Bool

abbrev pub world_of : Sizes → Vec Entry → Counts → TableAt → Vec Session → List (Option ℕ)
    → Option Owner → Bool → World
world_of limits history counts table sessions locks placed words = record {
  limits = limits;
  history = history.items;
  counts = counts;
  table = table;
  sessions = sessions.items;
  locks = locks;
  placed = placed;
  words = words;
}

abbrev pub session_changes : Session → Option ℕ
session_changes s = option_map cursor_changes s.cursor

-- Converts a linked node of a table to a node of the machine's state. `nodes_at` converts all
-- linked nodes.
abbrev pub node_at : NodeAt → Node
node_at n = record { at = n.at; marked = n.marked }

abbrev pub nodes_at : TableAt → List Node
nodes_at t = map node_at (nodes_of t)

-- The gap between a node and its successor, or None if there is no node. At the end of the list,
-- the gap has no successor.
abbrev pub gap_at : Option NodeAt → Option NodeAt → Option Gap
gap_at None behind = None
gap_at (Some n) behind = Some (record { before = n.at; behind = option_map (λ m. m.at) behind })

abbrev pub gap_of : TableAt → Cursor → Option Gap
gap_of t cursor =
    if fits t cursor
    then gap_at (node_of (nodes_of t) (pred_of cursor)) (behind t.list cursor)
    else None

abbrev pub gap_if : TableAt → Option Cursor → Option Gap
gap_if t None = None
gap_if t (Some cursor) = gap_of t cursor

abbrev pub gap_by : TableAt → Session → Option Gap
gap_by t s = gap_if t s.cursor

abbrev pub helper_gaps_of : TableAt → List (Option Gap)
helper_gaps_of t = map (gap_if t) (cursors_of t)

abbrev pub state_of : World → State
state_of w = record {
  limits = w.limits;
  words = w.words;
  history = w.history;
  size = size_of w.table;
  stored = stored_of w.table;
  linked = linked_of w.table;
  nodes = nodes_at w.table;
  changes = table_changes w.table;
  stamp = last_of w.table;
  cursors = map session_changes w.sessions;
  gaps = map (gap_by w.table) w.sessions;
  helper_gaps = helper_gaps_of w.table;
  helpers = helps_of w.table;
  placed = w.placed;
}

-- A caller's side agrees with the history. `room` is the room of the caller's log.
pub record HasStance (history : List Entry) (c : ℕ) (side : Side) (room : ℕ) : Type 0 where
  pub stance : stance_after (own c history) ≡ Some side.stance
  pub log : log_of c history ≡ changes_of side.jobs
  pub due : AreDue (now history) (reverse side.jobs)
  pub agrees : Agrees side room

-- How often all callers together keep the spare with this place and stamp, for waiting operations
-- and in logs.
abbrev pub all_times : List Session → ℕ → ℕ → ℕ
all_times sessions place stamp = sum_by (λ s. times_kept (side_of s) place stamp) sessions

-- If the last move placed a cursor, this cursor fits.
abbrev pub LastPlacedFits : TableAt → List Session → Option Owner → Type 0
LastPlacedFits t sessions None = Unit {0}
LastPlacedFits t sessions (Some (Caller c)) =
    (s : Session) (cursor : Cursor) → slice_get sessions c ≡ Some s → s.cursor ≡ Some cursor
    → fits t cursor ≡ true
LastPlacedFits t sessions (Some (Helper h)) = helper_fits t h ≡ true

-- The history is legal, and all other parts agree with it.
pub record Tells (w : World) : Type 0 where
  pub legal : IsLegal (holder_by w.words) w.limits.stripes w.history
  pub callers : All (λ entry. caller_of entry < w.limits.callers) w.history
  pub begins : w.counts.began ≡ how_many is_began w.history
  pub commits : w.counts.committed ≡ how_many is_commit w.history
  pub content : content w.table ≡ now w.history
  pub count : length w.sessions ≡ w.limits.callers
  pub its_stance : (c : ℕ) (s : Session) → slice_get w.sessions c ≡ Some s
      → HasStance w.history c (side_of s) s.log.room
  pub sought : (c : ℕ) (s : Session) → slice_get w.sessions c ≡ Some s → IsSought w.table s
  pub spares : IsCovered (all_times w.sessions) w.table
  pub fresh : LastPlacedFits w.table w.sessions w.placed
  pub stripes : length w.locks ≡ w.limits.stripes
  pub holders : (stripe : ℕ) → stripe < w.limits.stripes
      → held_by w.locks stripe ≡ holder_of w.limits.stripes stripe w.history
  pub largest : largest_of w.table ≡ w.limits.buckets
  pub helpers : length (helps_of w.table) ≡ w.limits.callers
  pub sound : IsSound w.table.list

-- The full invariant of a core. It also covers the parts that `World` leaves out.
pub record IsAccounted (w : World) (history : Vec Entry) (owed : ℕ) (begun : List Bool) :
    Type 0 where
  pub tells : Tells w
  pub owes : owed ≡ sum_by owed_of w.sessions
  pub room : vec_len history + sum_by owed_of w.sessions ≤ vec_capacity history
  pub noted : AreNoted w.limits.callers w.history begun
