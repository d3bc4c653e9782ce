-- What an edge between transactions says of their footprints, or of real time.
use Rattle.std.specs.Prelude.{ℕ, ◌≡◌, ◌<◌, Option, Some}
use Rattle.order_check.specs.declared.edge.Kind.{Kind}
use Rattle.order_check.specs.declared.edge.Kind.TheVariants.{Read, Replaced, Began}
use Rattle.order_check.specs.declared.edge.Edge.{Edge}
use Rattle.order_check.specs.Footprints.{Cell, Footprint}
use Rattle.order_check.specs.Dependencies.{ReadsFrom, ReplacesFor}

abbrev pub dependency_of : Kind → (ℕ → Footprint) → (ℕ → ℕ) → ℕ → ℕ → ℕ → Option ℕ → Type 0
dependency_of Read footprints since t u k value = ReadsFrom footprints t u k value
dependency_of Replaced footprints since t u k value = ReplacesFor footprints t u k value
dependency_of Began footprints since t u k value = t < since u

-- The edge shows that the transaction from which it comes is before `u` in every order.
abbrev pub Forces : (ℕ → Footprint) → (ℕ → ℕ) → Edge → ℕ → Type 0
Forces footprints since edge u =
    dependency_of edge.kind footprints since edge.from u edge.key edge.value

-- Only these transactions have cells.
abbrev pub OnlyThese : (ℕ → Type 0) → (ℕ → Footprint) → Type 0
OnlyThese is_one footprints = (t k : ℕ) (cell : Cell) → footprints t k ≡ Some cell → is_one t
