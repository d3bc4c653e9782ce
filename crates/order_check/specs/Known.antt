-- What is known of the places of transactions in all orders.
use Rattle.std.specs.Prelude.{ℕ, zero, suc, ◌≡◌, ◌<◌, Bool, true, false, List, [], ◌∷◌, slice_index_or}
use mathlib.Core.Logic.{◌⊎◌}
use Rattle.std.specs.declared.vec.Vec.{Vec}
use Rattle.std.specs.declared.alloc.Global.{Global}
use Rattle.order_check.specs.declared.access.Access.{Access}
use Rattle.order_check.specs.declared.known.Known.{Known}
use Rattle.order_check.specs.Lists.{place}
use Rattle.order_check.specs.Orders.{IsOrderOf}
use Rattle.order_check.specs.Outcomes.{IsTxn, footprints_of}

-- The first transaction comes before the second one in every order.
abbrev pub Precedes : ℕ → (ℕ → ℕ) → List Access → ℕ → ℕ → Type 0
Precedes count since accesses t u =
    (ts : List ℕ) → IsOrderOf (IsTxn count) (footprints_of accesses) since ts → place t ts < place u ts

-- The row of a transaction.
abbrev pub row_of : List (Vec Bool Global) → ℕ → List Bool
row_of [] t = []
row_of (row ∷ rows) zero = row.items
row_of (row ∷ rows) (suc t) = row_of rows t

-- Whether the rows say that `t` comes before `u`.
abbrev pub is_known : List (Vec Bool Global) → ℕ → ℕ → Bool
is_known rows t u = slice_index_or (row_of rows t) u false

-- What the rows say is so.
abbrev pub AreKnown : ℕ → (ℕ → ℕ) → List Access → Known → Type 0
AreKnown count since accesses known =
    (t u : ℕ) → is_known known.rows.items t u ≡ true → Precedes count since accesses t u

-- The row has true at no other index than before, and this one.
abbrev pub SetsAt : ℕ → List Bool → List Bool → Type 0
SetsAt i old new = (j : ℕ) → slice_index_or new j false ≡ true → (slice_index_or old j false ≡ true) ⊎ (i ≡ j)
