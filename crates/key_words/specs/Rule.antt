-- PROMISES stripes-as-atomic-words: IsOrderly
-- The rule about the stripes' words. It holds between any two atomic steps.
use Rattle.std.specs.Prelude.{◌≡◌, ◌≢◌, ℕ, ◌+◌, ◌<◌, ◌⊎◌, List, length, slice_index, Contains, Option, Some}
use mathlib.Core.Option.{some, none}
use lib.ListN.{get_elem?}
use Rattle.atomic_table.specs.Table.{State}
use Rattle.txn_words.specs.Held.{times, once_for}
use Rattle.key_words.specs.declared.view.View.{View}

-- Builds a view from its parts.
abbrev pub view : ℕ → ℕ → List ℕ → List (ℕ × ℕ) → View
view number made held notes = record { number = number; made = made; held = held; notes = notes }

-- The seat with this view holds the stripe.
abbrev pub Holds : View → ℕ → Type 0
Holds v stripe = 0 < times stripe v.held

-- The word is 0, or one more than the number of a seat.
abbrev pub IsNamed : List View → ℕ → Type 0
IsNamed views word =
    (word ≡ 0) ⊎ ((seat : ℕ) × (v : View) × (get_elem? views seat ≡ some v) × (word ≡ v.number + 1))

-- The word names a seat that has noted 0 as the stripe's word. This means that the seat has taken
-- the stripe at some time.
abbrev pub WasTaken : List View → ℕ → ℕ → Type 0
WasTaken views stripe word =
    (seat : ℕ) × (v : View) × (get_elem? views seat ≡ some v) × (word ≡ v.number + 1)
    × Contains v.notes (stripe, 0)

-- For each stripe, either the stripe's right is in the stripe's home, or one seat holds the stripe,
-- and the stripe's word names this seat. If a noted word is not 0, it names a seat that has taken
-- the stripe.
pub record IsOrderly (s : State (Option ℕ) View) : Type 0 where
  pub wide : length s.homes ≡ length s.words
  -- No two views have the same number. Each number is below the count of seats (`made`) in the view
  -- of seat 0.
  pub first : View
  pub at_first : get_elem? s.views 0 ≡ some first
  pub zeroth : first.number ≡ 0
  pub below : (i : ℕ) (v : View) → get_elem? s.views i ≡ some v → v.number < first.made
  pub apart : (i j : ℕ) (v w : View) → get_elem? s.views i ≡ some v → get_elem? s.views j ≡ some w
      → v.number ≡ w.number → i ≡ j
  -- A word is 0 or names a seat. A seat holds a stripe exactly if the stripe's word names the seat.
  -- No seat holds a stripe twice.
  pub named : (stripe : ℕ) → stripe < length s.words → IsNamed s.views (slice_index s.words stripe)
  pub held : (i : ℕ) (v : View) → get_elem? s.views i ≡ some v → (stripe : ℕ)
      → times stripe v.held ≡ once_for v.number (slice_index s.words stripe)
  -- If a stripe's word is 0, the stripe is at home: its home has the slot, and the slot has the
  -- stripe's right. If the word is not 0, the home is empty.
  pub home : (stripe : ℕ) → stripe < length s.words → slice_index s.words stripe ≡ 0
      → get_elem? s.homes stripe ≡ some (some (Some stripe))
  pub out : (stripe : ℕ) → stripe < length s.words → slice_index s.words stripe ≢ 0
      → get_elem? s.homes stripe ≡ some none
  -- A seat that holds a stripe has noted that the stripe's word was 0. If a note names a seat as a
  -- stripe's holder, that seat has taken the stripe before.
  pub taken : (i : ℕ) (v : View) → get_elem? s.views i ≡ some v → (stripe : ℕ) → Holds v stripe
      → Contains v.notes (stripe, 0)
  pub noted : (i : ℕ) (v : View) → get_elem? s.views i ≡ some v → (stripe word : ℕ) → word ≢ 0
      → Contains v.notes (stripe, word) → WasTaken s.views stripe word
