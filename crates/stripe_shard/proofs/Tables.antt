-- Shows that a key's value is in the slot at which the key's probe stops, and what a write there
-- changes, because each key is where its own probe stops (`IsTable`).
use Rattle.std.proofs.Common.{◌≡◌, ◌≢◌, ℕ, suc, ◌+◌, ◌-◌, ◌<◌, ◌≤◌, Bool, true, false, cond, List, [], ◌∷◌, length, Option, None, Some, count_by, set, get_or, refl, sym, ap, subst, ◌∙◌, ⊎_elim, arith, nat_eq, IsPermutation, not, is_some}
use Rattle.std.specs.List.{IsDistinct}
use Rattle.std.specs.Map.{keys_of}
use Rattle.std.proofs.lemmas.Bool.{cases_eq, eq-eqb, ne_eqb, false≢true}
use Rattle.std.proofs.lemmas.List.{get_or_default, get_or-set_same, get_or-set_other, length-set}
use Rattle.std.proofs.lemmas.List.Sums.{get_or-le-sum_by, sum_by-cons, sum_by-set}
use mir.Val.{bool_byte}
use Rattle.txn_words.specs.Map.{Map, get, count_of, set_at}
use Rattle.txn_words.proofs.Maps.{same_map, get-set_at}
use Rattle.stripe_shard.specs.declared.hash.Hash.{Hash}
use Rattle.stripe_shard.specs.declared.slot.Slot.{Slot}
use Rattle.stripe_shard.specs.declared.slot.Slot.TheVariants.{Empty, Removed, Full}
use Rattle.stripe_shard.specs.MapAt.{map_of}
use Rattle.stripe_shard.specs.Probes.{IsProbed, stops}
use Rattle.stripe_shard.specs.Slots.{IsTable, StopsAt, home, is_empty, is_full, key_at, key_in, pairs_of, slot_at, value_in}
use Rattle.stripe_shard.proofs.Lookups.{distinct, found, found_at, found_nowhere, found_set, length-pairs_of}
use Rattle.stripe_shard.proofs.Pairs.{count_map_of, get-map_of, rows_map_of, set_lookups}
use Rattle.stripe_shard.proofs.Rounds.{no_other, put_there, stopped, stops_some, unique}

-- 1 for `true`, 0 for `false`.
abbrev tally : Bool → ℕ
tally b = cond b 1 0

-- The map that the slots represent.
abbrev pub content : List Slot → Map
content slots = map_of (pairs_of slots)

abbrev pub begins : List Slot → Hash → ℕ → ℕ
begins slots hash key = home (length slots) hash key

valueless : (slot : Slot) → key_in slot ≡ None → value_in slot ≡ None
valueless Empty none = refl
valueless (Removed k) none = refl
valueless (Full k v) none = cc

only : (slots : List Slot) (room len : ℕ) (hash : Hash) (key place : ℕ) → IsTable slots room len hash → StopsAt slots (begins slots hash key) key place
    → (m : ℕ) → m < length slots → m ≢ place → key_at slots m ≢ Some key
only slots room len hash key place table at = no_other (key_at slots) (length slots) (home (length slots) hash) key place table.probed at.within at.stops at.leads

-- The value of a key is in the slot at which the key's probe stops.
pub get_there : (slots : List Slot) (room len : ℕ) (hash : Hash) (key place : ℕ) → IsTable slots room len hash → StopsAt slots (begins slots hash key) key place
    → get (content slots) key ≡ value_in (slot_at slots place)
get_there slots room len hash key place table at = get-map_of (pairs_of slots) key ∙ ⊎_elim
    (λ (none : key_at slots place ≡ None). found_nowhere slots key (λ m lt is. ⊎_elim
    (λ (e : m ≡ place). let both : None ≡ Some key = sym none ∙ sym (ap (key_at slots) e) ∙ is in absurd (cc))
    (λ (ne : m ≢ place). only slots room len hash key place table at m lt ne is) (cases_eq m place))
    ∙ sym (valueless (slot_at slots place) none))
    (λ (here : key_at slots place ≡ Some key). found_at slots key place at.within here (only slots room len hash key place table at))
    (stopped (key_at slots place) key at.stops)

-- If the probe for a key does not stop at any slot, the key has no value.
pub get_nowhere : (slots : List Slot) (key : ℕ) → ((j : ℕ) → j < length slots → stops (key_at slots j) key ≡ false) → get (content slots) key ≡ None
get_nowhere slots key passed = get-map_of (pairs_of slots) key
    ∙ found_nowhere slots key (λ m lt is. false≢true (sym (passed m lt) ∙ stops_some (key_at slots m) key is))

key_at-set_here : (slots : List Slot) (place : ℕ) (slot : Slot) → place < length slots → key_at (set slots place slot) place ≡ key_in slot
key_at-set_here slots place slot lt = ap key_in (get_or-set_same slots place slot Empty lt)

key_at-set_other : (slots : List Slot) (place : ℕ) (slot : Slot) (j : ℕ) → j ≢ place → key_at (set slots place slot) j ≡ key_at slots j
key_at-set_other slots place slot j ne = ap key_in (get_or-set_other slots place j slot Empty ne)

-- If a slot with a key is written at the place where the probe for this key stops, the key gets the
-- value of the slot. Each other key keeps its value.
pub content_set : (slots : List Slot) (room len : ℕ) (hash : Hash) (key place : ℕ) (slot : Slot) → IsTable slots room len hash → StopsAt slots (begins slots hash key) key place
    → key_in slot ≡ Some key → content (set slots place slot) ≡ set_at (content slots) key (value_in slot)
content_set slots room len hash key place slot table at is = set_lookups (pairs_of slots) (pairs_of later) key (value_in slot) (λ q. ⊎_elim
    (λ (e : key ≡ q). ap (found later) (sym e) ∙ here ∙ sym (ap (λ b. cond b (value_in slot) (found slots q)) (eq-eqb key q e)))
    (λ (ne : key ≢ q). found_set slots q place slot (was q ne) (λ s. ne (ap (λ (o : Option ℕ). num o) (sym is ∙ s)))
    ∙ sym (ap (λ b. cond b (value_in slot) (found slots q)) (ne_eqb key q ne))) (cases_eq key q))
  where
    later : List Slot
    later = set slots place slot

    num : Option ℕ → ℕ
    num None = 0
    num (Some n) = n

    long : length later ≡ length slots
    long = length-set slots place slot

    here : found later key ≡ value_in slot
    here = let e : length later ≡ length slots = long in let w = at.within in found_at later key place (omega arith) (key_at-set_here slots place slot at.within ∙ is)
        (λ m lt ne there. only slots room len hash key place table at m (omega arith) ne (sym (key_at-set_other slots place slot m ne) ∙ there))
        ∙ ap value_in (get_or-set_same slots place slot Empty at.within)

    was : (q : ℕ) → key ≢ q → key_at slots place ≢ Some q
    was q ne there = ⊎_elim (λ (none : key_at slots place ≡ None). let both : None ≡ Some q = sym none ∙ there in absurd (cc))
        (λ (same : key_at slots place ≡ Some key). ne (ap num (sym same ∙ there))) (stopped (key_at slots place) key at.stops)

-- If a slot with a key is written at the place where the probe for this key stops, the slots are
-- still sound, with `fewer` in place of `room` and `more` in place of `len`. `fewer` is at most
-- `room`, and below `room` if the old slot was empty. `more` is `len`, minus 1 if the old slot had
-- a value, plus 1 if the new slot has one.
pub table_set : (slots : List Slot) (room len : ℕ) (hash : Hash) (key place : ℕ) (slot : Slot) (fewer more : ℕ) → IsTable slots room len hash → StopsAt slots (begins slots hash key) key place
    → key_in slot ≡ Some key → fewer + tally (is_empty (slot_at slots place)) ≤ room
    → more + tally (is_full (slot_at slots place)) ≡ len + tally (is_full slot)
    → IsTable (set slots place slot) fewer more hash
table_set slots room len hash key place slot fewer more table at is less counts = record {
  probed = subst (λ n. IsProbed (key_at later) n (home n hash)) (sym (length-set slots place slot))
      (put_there (key_at slots) (key_at later) (length slots) (home (length slots) hash) key place table.probed at.within at.stops at.leads
      (key_at-set_here slots place slot at.within ∙ is) (λ j ne. key_at-set_other slots place slot j ne));
  room_is = let sum = sum_by-set (λ s. cond (is_empty s) 1 0) slots place slot Empty at.within in let none = not_empty slot is in
      let e : tally (is_empty slot) ≡ 0 = ap tally none in let r = table.room_is in omega arith;
  len_is = let sum = sum_by-set (λ s. cond (is_full s) 1 0) slots place slot Empty at.within in let l = table.len_is in omega arith;
}
  where
    later : List Slot
    later = set slots place slot

    not_empty : (s : Slot) → key_in s ≡ Some key → is_empty s ≡ false
    not_empty Empty h = cc
    not_empty (Removed k) h = refl
    not_empty (Full k v) h = refl

-- Removing a key that has no value changes nothing.
pub removed_none : (m : Map) (key : ℕ) → get m key ≡ None → m ≡ set_at m key None
removed_none m key none = same_map m (set_at m key None) (λ q. ⊎_elim
    (λ (e : q ≡ key). ap (get m) e ∙ none ∙ sym (get-set_at m key None q ∙ ap (λ b. cond b None (get m q)) (eq-eqb q key e)))
    (λ (ne : q ≢ key). sym (get-set_at m key None q ∙ ap (λ b. cond b None (get m q)) (ne_eqb q key ne))) (cases_eq q key))

-- If a probe does not stop at a slot, the slot is not empty.
in_use : (slot : Slot) (key : ℕ) → stops (key_in slot) key ≡ false → is_empty slot ≡ false
in_use Empty key goes = absurd (false≢true (sym goes))
in_use (Removed k) key goes = refl
in_use (Full k v) key goes = refl

none_empty : (slots : List Slot) (key : ℕ) → ((j : ℕ) → j < length slots → stops (key_at slots j) key ≡ false) → count_by is_empty slots ≡ 0
none_empty [] key passed = refl
none_empty (slot ∷ slots) key passed = let rest : count_by is_empty slots ≡ 0 = none_empty slots key (λ j lt. passed (suc j) (omega arith)) in
    sum_by-cons (λ s. cond (is_empty s) 1 0) slot slots ∙ ap (λ b. cond b 1 0 + count_by is_empty slots) (in_use slot key (passed 0 (omega arith))) ∙ ap (λ (n : ℕ). 0 + n) rest

pub stops_with_room : (slots : List Slot) (room len : ℕ) (hash : Hash) (key : ℕ) → IsTable slots room len hash → 0 < room
    → ((j : ℕ) → j < length slots → stops (key_at slots j) key ≡ false) → ⊥
stops_with_room slots room len hash key table some passed = let none = none_empty slots key passed in let r = table.room_is in omega arith

keys_apart : (slots : List Slot) (room len : ℕ) (hash : Hash) → IsTable slots room len hash → IsDistinct nat_eq (keys_of (pairs_of slots))
keys_apart slots room len hash table = distinct slots (λ key i j li lj a b. unique (key_at slots) (length slots) (home (length slots) hash) key i j table.probed li lj a b)

pub count_content : (slots : List Slot) (room len : ℕ) (hash : Hash) → IsTable slots room len hash → len ≡ count_of (content slots)
count_content slots room len hash table = table.len_is ∙ sym (length-pairs_of slots) ∙ count_map_of (pairs_of slots) (keys_apart slots room len hash table)

pub rows_content : (slots : List Slot) (room len : ℕ) (hash : Hash) → IsTable slots room len hash → IsPermutation (content slots).rows (pairs_of slots)
rows_content slots room len hash table = rows_map_of (pairs_of slots) (keys_apart slots room len hash table)

-- Slots that are all empty are sound.
pub all_empty : (slots : List Slot) (room : ℕ) (hash : Hash) → ((i : ℕ) → key_at slots i ≡ None) → room ≤ count_by is_empty slots → count_by is_full slots ≡ 0 → IsTable slots room 0 hash
all_empty slots room hash none few full = record {
  probed = λ i key is. let both : None ≡ Some key = sym (none i) ∙ is in absurd (cc);
  room_is = few;
  len_is = sym full;
}

-- If the place is below the number of slots, the slot that the code reads there is the one that
-- `slot_at` gives.
read_is : (slots : List Slot) (place : ℕ) (slot : Slot) → place < length slots → slot ≡ get_or slots place slot → slot ≡ slot_at slots place
read_is slots place slot lt read = read ∙ get_or_default slots place slot Empty lt

pub get_read : (slots : List Slot) (room len : ℕ) (hash : Hash) (key place : ℕ) (slot : Slot) → IsTable slots room len hash → StopsAt slots (begins slots hash key) key place
    → slot ≡ get_or slots place slot → value_in slot ≡ get (content slots) key
get_read slots room len hash key place slot table at read = ap value_in (read_is slots place slot at.within read) ∙ sym (get_there slots room len hash key place table at)

byte_is : (b : Bool) → bool_byte b ≡ tally b
byte_is true = refl
byte_is false = refl

few : (b : Bool) → tally b ≤ 1
few true = omega arith
few false = omega arith

one_of : (slot : Slot) → tally (not (is_some (value_in slot))) + tally (is_full slot) ≡ 1
one_of Empty = refl
one_of (Removed k) = refl
one_of (Full k v) = refl

-- After a key is put into the table, the slots are sound.
pub table_put : (slots : List Slot) (room len : ℕ) (hash : Hash) (key value place : ℕ) (slot : Slot) (used added : ℕ) → IsTable slots room len hash → StopsAt slots (begins slots hash key) key place
    → slot ≡ get_or slots place slot → 0 < room → used ≡ bool_byte (is_empty slot) → added ≡ bool_byte (not (is_some (value_in slot)))
    → IsTable (set slots place (Full key value)) (room - used) (len + added) hash
table_put slots room len hash key value place slot used added table at read some uses adds =
    let same : slot ≡ slot_at slots place = read_is slots place slot at.within read in
    let u : used ≡ tally (is_empty (slot_at slots place)) = uses ∙ byte_is (is_empty slot) ∙ ap (λ s. tally (is_empty s)) same in
    let a : added ≡ tally (not (is_some (value_in (slot_at slots place)))) = adds ∙ byte_is (not (is_some (value_in slot))) ∙ ap (λ s. tally (not (is_some (value_in s)))) same in
    let f = few (is_empty (slot_at slots place)) in
    let o = one_of (slot_at slots place) in
    table_set slots room len hash key place (Full key value) (room - used) (len + added) table at refl (omega arith) (omega arith)

-- After a key that has a value is removed, the slots are sound.
pub table_remove : (slots : List Slot) (room len : ℕ) (hash : Hash) (key place : ℕ) (slot : Slot) (k v : ℕ) → IsTable slots room len hash → StopsAt slots (begins slots hash key) key place
    → slot ≡ get_or slots place slot → slot ≡ Full k v → IsTable (set slots place (Removed key)) room (len - 1) hash
table_remove slots room len hash key place slot k v table at read full_is =
    let is : slot_at slots place ≡ Full k v = sym (read_is slots place slot at.within read) ∙ full_is in
    let some : tally (is_full (slot_at slots place)) ≤ count_by is_full slots = get_or-le-sum_by (λ s. cond (is_full s) 1 0) slots place Empty at.within in
    let full : tally (is_full (slot_at slots place)) ≡ 1 = ap (λ s. tally (is_full s)) is in
    let used : tally (is_empty (slot_at slots place)) ≡ 0 = ap (λ s. tally (is_empty s)) is in
    let l = table.len_is in
    table_set slots room len hash key place (Removed key) room (len - 1) table at refl (omega arith) (omega arith)

pub no_value : (slot : Slot) → ((k v : ℕ) → slot ≡ Full k v → ⊥) → value_in slot ≡ None
no_value Empty other = refl
no_value (Removed k) other = refl
no_value (Full k v) other = absurd (other k v refl)

pub not_back : (r b : Bool) → b ≡ not r → r ≡ not b
not_back true b is = sym (ap not is)
not_back false b is = sym (ap not is)
