-- The effects of calls on a caller's seat and its rights.
use Rattle.std.specs.Prelude.{◌≡◌, ◌≢◌, ℕ, ◌+◌, List, [], ◌∷◌, ◌++◌, slice_get, Some}
use Rattle.key_words.specs.declared.rights.Rights.{Rights}
use Rattle.key_words.specs.declared.taken.Tried.{Tried}
use Rattle.key_words.specs.declared.taken.Tried.TheVariants.{Mine, Another}
use Rattle.key_words.specs.declared.view.View.{View}
use Rattle.key_words.specs.Rule.{Holds, view}
use Rattle.key_words.specs.Seats.{known}
use Rattle.key_words.specs.Steps.{gained, with_note}

-- Seat and rights are unchanged.
abbrev pub IsSame : Rights → Rights → Type 0
IsSame r q = (q.seat ≡ r.seat) × (q.rights.items ≡ r.rights.items)

-- The seat now holds the stripe too, and the stripe's right is added at the end of the rights.
abbrev pub Gains : Rights → ℕ → Rights → Type 0
Gains r stripe q = (known q.seat ≡ gained (known r.seat) stripe)
    × (q.rights.items ≡ r.rights.items ++ stripe ∷ [])

-- The result when a caller that keeps its rights tries to take a stripe. `Mine`: the stripe's right
-- is at the position `place`. If the seat held the stripe before, nothing has changed. If not, the
-- stripe was free, and the seat holds it now. `Another`: another seat held the stripe. The seat has
-- noted the stripe's word, and the rights are unchanged.
abbrev pub Tries : Rights → ℕ → Tried → Rights → Type 0
Tries r stripe (Mine place) q = (slice_get q.rights.items place ≡ Some stripe)
    × (Holds (known r.seat) stripe → IsSame r q)
    × (¬ Holds (known r.seat) stripe → Gains r stripe q)
Tries r stripe (Another word) q = (word ≢ 0) × (word ≢ (known r.seat).number + 1)
    × (¬ Holds (known r.seat) stripe)
    × (known q.seat ≡ with_note (known r.seat) stripe word) × (q.rights.items ≡ r.rights.items)

-- The view after the seat has given back all its stripes.
abbrev pub none_held : View → View
none_held v = view v.number v.made [] v.notes
