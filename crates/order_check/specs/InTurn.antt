-- Accesses that run in the order of their list.
use Rattle.std.specs.Prelude.{ℕ, ◌≡◌, ◌==◌, ◌≤◌, Option, Some, None, List, [], ◌∷◌, nat_eq, if◌then◌else◌}
use Rattle.std.specs.HashMap.{HashMap, get as told_at}
use Rattle.order_check.specs.declared.access.Access.{Access}
use Rattle.order_check.specs.Footprints.{Values}

-- The values after an access.
abbrev pub after_access : Values → Access → Values
after_access vs a k = if a.key == k then a.left else vs k

-- The accesses run in the order of the list, the first one on the values `vs`. Each of them finds
-- the value that it needs.
abbrev pub RunInTurn : Values → List Access → Type 0
RunInTurn vs [] = Unit {0}
RunInTurn vs (a ∷ rest) = (vs a.key ≡ a.need) × RunInTurn (after_access vs a) rest

-- The numbers of the transactions rise along the list, from `n` on.
abbrev pub AreRising : ℕ → List Access → Type 0
AreRising n [] = Unit {0}
AreRising n (a ∷ rest) = (n ≤ a.txn) × AreRising a.txn rest

-- A value that is kept at a key, or None if nothing is kept there.
abbrev pub value_or_none : Option (Option ℕ) → Option ℕ
value_or_none None = None
value_or_none (Some v) = v

-- The values that a map keeps.
abbrev pub value_in : {S : Type 0} → HashMap ℕ (Option ℕ) S → Values
value_in values k = value_or_none (told_at nat_eq values k)
