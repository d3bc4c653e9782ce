-- Finite maps from numbers to numbers, and the reply and the effect of an operation.
use Rattle.std.specs.Prelude.{ℕ, Bool, true, false, not, Option, Some, None, is_some, T, List, [], map, length, nat_eq, if◌then◌else◌}
use Rattle.std.specs.Option.{option_eq}
use Rattle.std.specs.FinMap.Entries.{find, put, where_key, is_sorted, is_sorted-put, is_sorted-where_key}
use Rattle.std.specs.Ordering.{nat_cmp, eq_by_cmp}
use Rattle.std.specs.Cmp.{nat_cmp_total}
use Rattle.txn_words.specs.declared.op.Op.{Op}
use Rattle.txn_words.specs.declared.op.Op.TheVariants.{Put, Take, Get, PutIf}

-- A map: the list of its pairs of key and value, in rising order of keys. It is std's finite map as
-- a plain list, so that its functions can be evaluated.
pub record Map : Type 0 where
  pub rows : List (ℕ × ℕ)
  pub rising : T (is_sorted nat_cmp rows)

-- The map without keys.
abbrev pub empty : Map
empty = record { rows = []; rising = tt }

-- The value at a key, if the key is there.
abbrev pub get : Map → ℕ → Option ℕ
get m k = find nat_cmp k m.rows

-- The map after this value is put at the key.
abbrev pub insert : Map → ℕ → ℕ → Map
insert m k v = record {
  rows = put nat_cmp k v m.rows;
  rising = is_sorted-put nat_cmp nat_cmp_total k v m.rows m.rising;
}

-- The map after the key is removed.
abbrev pub remove : Map → ℕ → Map
remove m k = record {
  rows = where_key nat_cmp (λ x. not (eq_by_cmp nat_cmp k x)) m.rows;
  rising = is_sorted-where_key nat_cmp _ m.rows m.rising;
}

-- The map after the key is set to this value. If the value is None, the key is removed.
abbrev pub set_at : Map → ℕ → Option ℕ → Map
set_at m k None = remove m k
set_at m k (Some v) = insert m k v

-- The keys of a map, in rising order.
abbrev pub keys : Map → List ℕ
keys m = map (λ pair. pair.0) m.rows

-- How many keys there are.
abbrev pub count_of : Map → ℕ
count_of m = length m.rows

-- The key of an operation.
abbrev pub key_of : Op → ℕ
key_of (Put k v) = k
key_of (Take k) = k
key_of (Get k) = k
key_of (PutIf k expected v) = k

-- The reply to an operation: the value at its key, if the key is there.
abbrev pub reply_of : Map → Op → Option ℕ
reply_of m op = get m (key_of op)

-- The map after an operation. A PutIf puts its value exactly if the key's value is the expected
-- one. If None is expected, the key must be absent.
abbrev pub after : Map → Op → Map
after m (Put k v) = insert m k v
after m (Take k) = remove m k
after m (Get k) = m
after m (PutIf k expected v) = if option_eq nat_eq (get m k) expected then insert m k v else m

-- True if an operation is a change: a Put, a Take of a key that is there, or a PutIf whose key has
-- the expected value. If None is expected, the key must be absent.
abbrev pub is_change : Map → Op → Bool
is_change m (Put k v) = true
is_change m (Take k) = is_some (get m k)
is_change m (Get k) = false
is_change m (PutIf k expected v) = option_eq nat_eq (get m k) expected
