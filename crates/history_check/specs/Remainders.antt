-- How the values of a checker, which are in several sorted maps, agree with the map of the
-- definitions.
use Rattle.std.specs.Prelude.{◌≡◌, ℕ, ◌%◌, slice_get}
use Rattle.std.specs.Option.{IfSome}
use Rattle.std.specs.Ordering.{nat_cmp}
use Rattle.std.specs.BTreeMap.{BTreeMap, get as value_at}
use Rattle.txn_words.specs.Map.{Map, get}
use Rattle.history_check.specs.declared.values.Values.{Values}

-- At each key that has this remainder, the sorted map has the same value as `m`.
abbrev pub HasOf : Map → ℕ → BTreeMap ℕ ℕ → Type 0
HasOf m remainder values =
    (key : ℕ) → key % 1021 ≡ remainder → value_at nat_cmp values key ≡ get m key

-- Each sorted map has the values of the keys with its remainder. So together the sorted maps have
-- the values of all keys.
abbrev pub Have : Map → Values → Type 0
Have m values =
    (remainder : ℕ) → IfSome (slice_get values.maps.items remainder) (HasOf m remainder)
