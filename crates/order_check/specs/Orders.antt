-- Orders in which all transactions find what they need, and that keep real time.
use Rattle.std.specs.Prelude.{ℕ, ◌<◌, List}
use Rattle.order_check.specs.Lists.{HasEachOnce, place}
use Rattle.order_check.specs.Footprints.{Footprint, no_values, RunsFrom}

-- Real time: transactions are numbered in the order of their commits, and `since u` of them had
-- committed when `u` began. Each of these comes before `u`. If `since` is always 0, real time does
-- not count.
abbrev pub KeepsTime : (ℕ → ℕ) → List ℕ → Type 0
KeepsTime since ts = (t u : ℕ) → t < since u → place t ts < place u ts

-- The transactions run in this order, one after the other from the empty map, and each of them finds
-- the values that it needs. The order keeps real time.
pub record IsOrderOf (is_one : ℕ → Type 0) (footprints : ℕ → Footprint) (since : ℕ → ℕ) (ts : List ℕ) : Type 0 where
  pub each : HasEachOnce is_one ts
  pub runs : RunsFrom footprints no_values ts
  pub in_time : KeepsTime since ts

-- There is no such order.
abbrev pub HasNoOrder : (ℕ → Type 0) → (ℕ → Footprint) → (ℕ → ℕ) → Type 0
HasNoOrder is_one footprints since = (ts : List ℕ) → IsOrderOf is_one footprints since ts → ⊥
