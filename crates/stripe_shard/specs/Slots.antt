-- The content of a map's slots, and the conditions under which the slots are sound.
use Rattle.std.specs.Prelude.{◌≡◌, ℕ, ◌*◌, ◌/◌, ◌%◌, ◌^◌, ◌-◌, ◌<◌, ◌≤◌, bit_xor, Bool, true, false, Option, Some, None, List, [], ◌∷◌, length, count_by, slice_index_or, nat_lt, if◌then◌else◌}
use Rattle.stripe_shard.specs.declared.hash.Hash.{Hash}
use Rattle.stripe_shard.specs.declared.slot.Slot.{Slot}
use Rattle.stripe_shard.specs.declared.slot.Slot.TheVariants.{Empty, Removed, Full}
use Rattle.stripe_shard.specs.Probes.{IsProbed, LeadsTo, stops}

-- The key of a slot that is not empty.
abbrev pub key_in : Slot → Option ℕ
key_in Empty = None
key_in (Removed key) = Some key
key_in (Full key value) = Some key

-- The value of a slot that has one.
abbrev pub value_in : Slot → Option ℕ
value_in Empty = None
value_in (Removed key) = None
value_in (Full key value) = Some value

abbrev pub is_empty : Slot → Bool
is_empty Empty = true
is_empty (Removed key) = false
is_empty (Full key value) = false

abbrev pub is_full : Slot → Bool
is_full Empty = false
is_full (Removed key) = false
is_full (Full key value) = true

-- The slot at a place, and the key of this slot. If there is no such place, the slot is empty and
-- there is no key.
abbrev pub slot_at : List Slot → ℕ → Slot
slot_at slots i = slice_index_or slots i Empty

abbrev pub key_at : List Slot → ℕ → Option ℕ
key_at slots i = key_in (slot_at slots i)

-- The keys that have values, each with its value, in the order of the slots.
abbrev pub pairs_of : List Slot → List (ℕ × ℕ)
pairs_of [] = []
pairs_of (Empty ∷ slots) = pairs_of slots
pairs_of (Removed key ∷ slots) = pairs_of slots
pairs_of (Full key value ∷ slots) = (key, value) ∷ pairs_of slots

-- The place where the probe for a key begins. It is the number in the high bits of the product of
-- the key and an odd number, which the seed gives, or 0 if there is no place with this number.
unfoldable pub home : ℕ → Hash → ℕ → ℕ
home count hash key =
    let multiplier = bit_xor 0x9E37_79B9_7F4A_7C15 (hash.seed * 2 % 2 ^ 64) in
    let high = key * multiplier % 2 ^ 64 / 2 ^ (hash.shift % 64) in
    if nat_lt high count then high else 0

-- The probe for a key stops at this place.
pub record StopsAt (slots : List Slot) (start key place : ℕ) : Type 0 where
  pub within : place < length slots
  pub stops : stops (key_at slots place) key ≡ true
  pub leads : LeadsTo (key_at slots) (length slots) start key place

-- The slots are sound. Each key is at the place where its probe stops, at least `room` slots are
-- empty, and `len` slots have a value.
pub record IsTable (slots : List Slot) (room len : ℕ) (hash : Hash) : Type 0 where
  pub probed : IsProbed (key_at slots) (length slots) (home (length slots) hash)
  pub room_is : room ≤ count_by is_empty slots
  pub len_is : len ≡ count_by is_full slots

-- The greatest number of slots that may be in use in an array of `count` slots. This limit keeps
-- probes short.
abbrev pub most_used : ℕ → ℕ
most_used count = count - count / 8
