-- PROMISES the-present-map: IsContent, IsRegular
-- The fourth claim, content: the map has the values that the history leads to (`now`), and the list
-- has the pairs of this map in order.
use Rattle.std.specs.Prelude.{◌≡◌, ℕ, List}
use Rattle.std.specs.Ordering.{nat_cmp}
use Rattle.std.specs.BTreeMap.{BTreeMap, get as value_at}
use Rattle.boost_core.specs.Vocabulary.{get, now}
use Rattle.txn_words.specs.Ordered.{ordered}
use Rattle.boost_core.specs.State.{State}

abbrev pub IsContent : State → BTreeMap ℕ ℕ → Type 0
IsContent state map = (key : ℕ) → value_at nat_cmp map key ≡ get (now state.history) key

abbrev pub IsRegular : State → List (ℕ × ℕ) → Type 0
IsRegular state pairs = pairs ≡ ordered (now state.history)
