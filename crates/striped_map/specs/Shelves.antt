-- The shelf on which the seats of a striped map's callers lie after the callers have ended.
use Rattle.std.specs.Prelude.{◌≡◌, ◌≢◌, ℕ, ◌<◌, [], ◌∷◌, length, slice_index, Option, Some, None}
use mathlib.Core.Option.{some}
use lib.ListN.{get_elem?}
use Rattle.atomic_table.specs.Seated.{TableId}
use Rattle.atomic_table.specs.Table.{Me, State, Step}
use Rattle.atomic_table.specs.declared.shared.Seat.{Seat}
use Rattle.txn_words.specs.declared.stance.Phase.TheVariants.{Closed}
use Rattle.stripe_shard.specs.ShardAt.{ShardAt}
use Rattle.striped_map.specs.declared.keep.Keep.{Keep}
use Rattle.striped_map.specs.declared.seat.MapSeat.{MapSeat}
use Rattle.striped_map.specs.declared.view.View.{View}
use Rattle.striped_map.specs.Steps.{IsAt}

-- The seat of a caller that has ended. It belongs to this table, whose map keeps `keep`, is in no
-- transaction and holds no stripe, and no other seat was merged into it.
pub record IsOver (table : TableId) (keep : Keep) (seat : MapSeat) : Type 0 where
  pub of : seat.seat.table_id ≡ table
  pub alike : seat.seat.me.0.keep ≡ keep
  pub closed : IsAt Closed seat.seat.me.0
  pub idle : seat.seat.me.0.held ≡ []
  pub plain : seat.seat.me.0.retired ≡ []

-- A seat of the map to which a shelf belongs.
abbrev pub Like : Type 0
Like = Seat ShardAt View

-- What may lie at a place: nothing, or the seat with this number, whose caller has ended.
abbrev pub MayLie : Like → ℕ → Option MapSeat → Type 0
MayLie like place None = Unit {0}
MayLie like place (Some seat) =
    (seat.number ≡ place) × IsOver like.table_id like.me.0.keep seat

-- The rule of the shelf. A place whose word is not 1 has its slot, and a slot at its place has what
-- may lie there.
pub record IsOrderly (like : Like) (s : State (Option MapSeat) Like) : Type 0 where
  pub wide : length s.homes ≡ length s.words
  pub home : (place : ℕ) → place < length s.words → slice_index s.words place ≢ 1
      → (slot : Option MapSeat) × (get_elem? s.homes place ≡ some (some slot))
  pub good : (place : ℕ) (slot : Option MapSeat) → get_elem? s.homes place ≡ some (some slot)
      → MayLie like place slot

-- What a thread knows of the shelf, and a relation between a step, the thread before it, the word
-- that it found, and the thread after it.
abbrev pub Thread : Type 0
Thread = Me (Option MapSeat) Like

abbrev pub ShelfStep : Type 1
ShelfStep = Step (Option MapSeat) → Thread → ℕ → Thread → Type 0

-- A new thread knows to which map the shelf belongs.
abbrev pub Sits : ShelfStep
Sits st m found n = n.0 ≡ m.0

-- If the word was the expected one, the thread has the slot, with what may lie there.
abbrev pub Grabs : ShelfStep
Grabs st m found n = (n.0 ≡ m.0) × (found ≡ st.first
    → (slot : Option MapSeat) × (n.1 ≡ (st.word, slot) ∷ m.1) × MayLie m.0 st.word slot)

abbrev pub Releases : ShelfStep
Releases st m found n = n.0 ≡ m.0
