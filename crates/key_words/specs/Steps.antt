-- How each step on the words changes the seat that takes the step.
use Rattle.std.specs.Prelude.{◌≡◌, ◌≢◌, ◌↔◌, ℕ, ◌+◌, List, [], ◌∷◌, ◌++◌, Option, Some, None}
use Rattle.atomic_table.specs.Table.{Me, Step, rest}
use Rattle.txn_words.specs.Held.{removed}
use Rattle.key_words.specs.declared.view.View.{View}
use Rattle.key_words.specs.Rule.{view, Holds}

-- A seat's view, and the slots that the seat has taken from their homes.
abbrev pub Sat : Type 0
Sat = Me (Option ℕ) View

-- A relation between a step, the seat before the step, the word that the step found, and the seat
-- after the step.
abbrev pub StepEffect : Type 1
StepEffect = Step (Option ℕ) → Sat → ℕ → Sat → Type 0

-- The view after the seat has noted the stripe and its word.
abbrev pub with_note : View → ℕ → ℕ → View
with_note v stripe word = view v.number v.made v.held (v.notes ++ (stripe, word) ∷ [])

-- The view after the seat has taken the stripe: it holds the stripe, and has noted the word 0.
abbrev pub gained : View → ℕ → View
gained v stripe = view v.number v.made (stripe ∷ v.held) (v.notes ++ (stripe, 0) ∷ [])

-- The view after the seat has given the stripe back.
abbrev pub lost : View → ℕ → View
lost v stripe = view v.number v.made (removed stripe v.held) v.notes

-- The view of the first seat after one more seat was split off.
abbrev pub elder : View → View
elder v = view v.number (v.made + 1) v.held v.notes

-- The view of a new seat that was split off from the seat with the view `v`.
abbrev pub newborn : View → View
newborn v = view v.made 0 [] []

-- Pairs each of these stripes with an empty slot.
abbrev pub emptied : List ℕ → List (ℕ × Option ℕ)
emptied [] = []
emptied (stripe ∷ others) = (stripe, None) ∷ emptied others

-- If the word was 0, the seat now holds the stripe, and has the stripe's slot with the right in it.
-- If the word was not 0, the seat notes the word. In that case, the word names this seat exactly if
-- the seat held the stripe before.
abbrev pub took : StepEffect
took st m found n = (found ≡ 0 → n ≡ (gained m.0 st.word, (st.word, Some st.word) ∷ m.1))
    × (found ≢ 0 → (n ≡ (with_note m.0 st.word found, m.1))
    × (Holds m.0 st.word ↔ (found ≡ m.0.number + 1)))

-- The stripe's slot is now the first of the seat's slots. All slots of the seat are empty.
abbrev pub brought : StepEffect
brought st m found n = n ≡ (m.0, emptied (st.word ∷ removed st.word m.0.held))

-- The seat no longer holds the stripe, and the stripe's slot is back at its home.
abbrev pub freed : StepEffect
freed st m found n = n ≡ (lost m.0 st.word, rest m.1)
