-- PROMISES stripes-as-atomic-words: HeldOnce
-- Consequences of the rule of the words, `IsOrderly`.
use Rattle.std.specs.Prelude.{◌≡◌, ℕ, Option}
use mathlib.Core.Option.{some}
use lib.ListN.{get_elem?}
use Rattle.atomic_table.specs.Table.{State}
use Rattle.key_words.specs.declared.view.View.{View}
use Rattle.key_words.specs.Rule.{IsOrderly, Holds}

-- Two views that hold the same stripe belong to the same seat.
abbrev pub HeldOnce : Type 0
HeldOnce = (s : State (Option ℕ) View) → IsOrderly s → (i j : ℕ) (v w : View)
    → get_elem? s.views i ≡ some v → get_elem? s.views j ≡ some w → (stripe : ℕ) → Holds v stripe
    → Holds w stripe → i ≡ j
