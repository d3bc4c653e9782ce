-- That accesses are plain (`ArePlain`) has one proof at most, so that a struct can keep it. So has
-- what is kept of real time (`AreBegun`).
use Rattle.std.specs.Prelude.{ℕ, List, [], ◌∷◌, length}
use mathlib.Core.HLevel.{Unit-prop, ×_prop, Π_prop}
use native.Mathlib.Bridge.{le_prop}
use native.Mathlib.Nat.{ℕ_set}
use Rattle.order_check.specs.declared.access.Access.{Access}
use Rattle.order_check.specs.InTurn.{AreRising}
use Rattle.order_check.specs.Joined.{AreDistinct}
use Rattle.order_check.specs.Outcomes.{ArePlain}
use Rattle.order_check.specs.Timing.{AreBegun, IsTiming}

AreDistinct-prop : (accesses : List Access) → IsProp (AreDistinct accesses)
AreDistinct-prop [] = Unit-prop
AreDistinct-prop (x ∷ xs) =
    ×_prop (Π_prop λ a. Π_prop λ among. Π_prop λ txn. Π_prop λ key. λ never other. absurd never)
    (AreDistinct-prop xs)

AreRising-prop : (n : ℕ) (accesses : List Access) → IsProp (AreRising n accesses)
AreRising-prop n [] = Unit-prop
AreRising-prop n (a ∷ rest) = ×_prop le_prop (AreRising-prop a.txn rest)

pub ArePlain-prop : (count : ℕ) (accesses : List Access) → IsProp (ArePlain count accesses)
ArePlain-prop count accesses x y = λ i. record {
  below = λ a among. le_prop (x.below a among) (y.below a among) i;
  distinct = AreDistinct-prop accesses x.distinct y.distinct i;
  rising = AreRising-prop 0 accesses x.rising y.rising i;
}

IsTiming-prop : (count : ℕ) (since : List ℕ) → IsProp (IsTiming count since)
IsTiming-prop count since x y = λ i. record {
  len = ℕ_set (length since) count x.len y.len i;
  early = λ u. le_prop (x.early u) (y.early u) i;
}

pub AreBegun-prop : (count : ℕ) (since begun : List ℕ) → IsProp (AreBegun count since begun)
AreBegun-prop count since begun x y = λ i. record {
  timing = IsTiming-prop count since x.timing y.timing i;
  within = λ c. le_prop (x.within c) (y.within c) i;
}
