-- PROMISES the-present-map: now
-- The map `now`: the committed map, with those changes of the open transactions that are not taken
-- back.
use Rattle.std.specs.Prelude.{ℕ, Option, List, [], ◌∷◌, map, nat_eq, if◌then◌else◌}
use Rattle.std.specs.Option.{option_eq}
use Rattle.std.specs.List.{fold, flat_map}
use Rattle.txn_words.specs.declared.entry.Entry.{Entry}
use Rattle.txn_words.specs.Map.{Map, empty, get, keys, set_at}
use Rattle.txn_trace.specs.History.{of, open_txns}
use Rattle.txn_trace.specs.Alone.{map_after}
use Rattle.txn_trace.specs.Serial.{serial}

-- For each open transaction, the map that it leaves if it runs alone on the map of the committed
-- transactions.
abbrev pub open_maps : List Entry → List Map
open_maps h = map (λ t. map_after (serial h) (of t h)) (open_txns h)

-- The value at the key `k` in the first map that differs from the base at `k`. If no map differs
-- there, it is the value in the base.
abbrev pub first_differing : Map → List Map → ℕ → Option ℕ
first_differing base [] k = get base k
first_differing base (m ∷ ms) k =
    if option_eq nat_eq (get m k) (get base k) then first_differing base ms k else get m k

-- The value of the map `now` at a key. It is the value from the open transaction that changed the
-- key, or the committed value if no open transaction changed it.
abbrev pub now_at : List Entry → ℕ → Option ℕ
now_at h k = first_differing (serial h) (open_maps h) k

-- The map that has the values of a function at these keys, and has no other keys.
abbrev pub tabulated : List ℕ → (ℕ → Option ℕ) → Map
tabulated ks f = fold (λ m k. set_at m k (f k)) empty ks

-- The map that has the value of `now_at` at each key.
abbrev pub now : List Entry → Map
now h = tabulated (flat_map keys (serial h ∷ open_maps h)) (now_at h)
