-- When a sorted map agrees with the map of the definitions.
use Rattle.std.specs.Prelude.{◌≡◌, ℕ}
use Rattle.std.specs.Ordering.{nat_cmp}
use Rattle.std.specs.BTreeMap.{BTreeMap, get as value_at}
use Rattle.txn_words.specs.Map.{Map, get}

-- The two maps have the same value at each key.
abbrev pub Has : Map → BTreeMap ℕ ℕ → Type 0
Has m values = (key : ℕ) → value_at nat_cmp values key ≡ get m key
