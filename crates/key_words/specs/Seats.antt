-- How contracts describe the words and a seat.
use Rattle.std.specs.Prelude.{◌≡◌, ◌≢◌, ◌↔◌, ℕ, ◌+◌, ◌<◌, List, [], length}
use Rattle.std.specs.List.{HoldsAt}
use Rattle.key_words.specs.declared.view.View.{View}
use Rattle.key_words.specs.declared.seat.KeySeat.{KeySeat}
use Rattle.key_words.specs.declared.words.KeyWords.{KeyWords}
use Rattle.key_words.specs.declared.taken.Taken.{Taken}
use Rattle.key_words.specs.declared.taken.Taken.TheVariants.{Granted, Held}
use Rattle.key_words.specs.Rule.{Holds}
use Rattle.key_words.specs.Steps.{gained, with_note}

-- The view of the seat.
abbrev pub known : KeySeat → View
known seat = seat.seat.me.0

-- The seat belongs to these words.
abbrev pub IsOf : KeySeat → KeyWords → Type 0
IsOf seat words = seat.seat.table_id ≡ words.table.shared.table_id

-- How many stripes there are.
abbrev pub stripes_of : KeyWords → ℕ
stripes_of words = words.table.shared.table_id.words

-- The result when a seat tries to take a stripe. The seat notes the word that it found. `Granted`:
-- the word was 0, and the seat now has the stripe and its right. `Held`: the word was not 0. It
-- named this seat exactly if the seat held the stripe before.
abbrev pub Takes : ℕ → View → Taken → View → Type 0
Takes stripe v (Granted right) w = (right ≡ stripe) × (w ≡ gained v stripe)
Takes stripe v (Held word) w = (word ≢ 0) × (w ≡ with_note v stripe word)
    × (Holds v stripe ↔ (word ≡ v.number + 1))

-- A seat of these words that has not done anything yet.
pub record IsFresh (words : KeyWords) (number : ℕ) (seat : KeySeat) : Type 0 where
  pub of : IsOf seat words
  pub number_is : (known seat).number ≡ number
  pub held : (known seat).held ≡ []
  pub notes : (known seat).notes ≡ []

-- There are `count` seats. Each is fresh, and its number is its position.
pub record AreSeats (words : KeyWords) (count : ℕ) (seats : List KeySeat) : Type 0 where
  pub count_is : length seats ≡ count
  pub each : (number : ℕ) → number < count → HoldsAt (IsFresh words number) seats number
