-- PROMISES each-step-is-a-move-of-the-machine: State
-- The states of the machine.
pub use Rattle.map_ops.specs.TableAt.{Help, Nothing, Sought, Dummy}
pub use Rattle.boost_core.specs.declared.owner.Owner.{Owner}
pub use Rattle.boost_core.specs.declared.owner.Owner.TheVariants.{Caller, Helper}
pub use Rattle.split_key.specs.declared.sort.SortKey.{SortKey}
use Rattle.boost_core.specs.Vocabulary.{dummy_at, Entry, Now, Begun, Sizes, Stance, closed_stance, stance_after, own}
use Rattle.std.specs.Prelude.{ℕ, ◌-◌, Bool, true, false, List, [], ◌∷◌, Option, Some, None, replicate, slice_get, slice_set, unwrap_or}
use Rattle.txn_words.specs.declared.holder.Holder.{Holder}

-- A linked node: its position in the list's order, and whether it is marked.
pub record Node : Type 0 where
  pub at : SortKey
  pub marked : Bool

abbrev pub plain_node : SortKey → Node
plain_node at = record { at = at; marked = false }

abbrev pub marked_node : SortKey → Node
marked_node at = record { at = at; marked = true }

-- The positions of the two nodes beside a cursor. At the end of the list there is no second node.
pub record Gap : Type 0 where
  pub before : SortKey
  pub behind : Option SortKey

-- A state of the machine. `words` says whether stripes are words. `stored` and `linked` say for
-- each bucket whether it is stored and whether its dummy is linked. `nodes` are the linked nodes in
-- order, `changes` is the list's change number, and `stamp` is the last stamp given. `cursors` has
-- the change number that each caller's cursor noted. `gaps` and `helper_gaps` have the gap of each
-- caller's and each helper's cursor that fits. `placed` is the owner of the cursor that the last
-- move placed. A refusal does not count as a move.
pub record State : Type 0 where
  pub limits : Sizes
  pub words : Bool
  pub history : List Entry
  pub size : ℕ
  pub stored : List Bool
  pub linked : List Bool
  pub nodes : List Node
  pub changes : ℕ
  pub stamp : ℕ
  pub cursors : List (Option ℕ)
  pub gaps : List (Option Gap)
  pub helper_gaps : List (Option Gap)
  pub helpers : List Help
  pub placed : Option Owner

-- The state at the start. The history is empty. The table has two buckets: the first is stored, and
-- only its dummy is linked.
abbrev pub start : Sizes → State
start limits = record {
  limits = limits;
  words = false;
  history = [];
  size = 2;
  stored = true ∷ replicate (limits.buckets - 1) false;
  linked = true ∷ replicate (limits.buckets - 1) false;
  nodes = plain_node (dummy_at 0) ∷ [];
  changes = 0;
  stamp = 0;
  cursors = replicate limits.callers None;
  gaps = replicate limits.callers None;
  helper_gaps = replicate limits.callers None;
  helpers = replicate limits.callers Nothing;
  placed = None;
}

abbrev pub start_with_words : Sizes → State
start_with_words limits = record (start limits) { words = true }

-- Which caller a Busy entry may name. It is the caller that holds the stripe now or, if stripes are
-- words, a caller that has begun a transaction before.
abbrev pub holder_by : Bool → Holder
holder_by false = Now
holder_by true = Begun

-- The stance of a caller, computed from the caller's entries in the history: its phase, its standing
-- changes and its savepoints.
abbrev pub stance_in : List Entry → ℕ → Stance
stance_in history c = unwrap_or (stance_after (own c history)) closed_stance

-- The change number that a caller's cursor noted, if the caller has a cursor.
abbrev pub caller_changes : List (Option ℕ) → ℕ → Option ℕ
caller_changes cursors c = unwrap_or (slice_get cursors c) None

abbrev pub gap_in : List (Option Gap) → ℕ → Option Gap
gap_in gaps n = unwrap_or (slice_get gaps n) None

-- The gap of an owner's cursor, if the owner has a cursor that fits.
abbrev pub gap_for : State → Owner → Option Gap
gap_for state (Caller c) = gap_in state.gaps c
gap_for state (Helper h) = gap_in state.helper_gaps h

abbrev pub help_in : List Help → ℕ → Help
help_in helpers h = unwrap_or (slice_get helpers h) Nothing

abbrev pub is_set : List Bool → ℕ → Bool
is_set buckets bucket = unwrap_or (slice_get buckets bucket) false

abbrev pub with_bucket : List Bool → ℕ → List Bool
with_bucket buckets bucket = slice_set buckets bucket true

-- The bucket for which a helper has a cursor or a dummy, or 0 if it has neither.
abbrev pub bucket_at : Help → ℕ
bucket_at Nothing = 0
bucket_at (Sought bucket noted) = bucket
bucket_at (Dummy bucket) = bucket

abbrev pub bucket_of : State → ℕ → ℕ
bucket_of state h = bucket_at (help_in state.helpers h)

abbrev pub helper_changes : Help → Option ℕ
helper_changes Nothing = None
helper_changes (Sought bucket noted) = Some noted
helper_changes (Dummy bucket) = None
