-- The value that a key has in the pairs of the slots, if at most one slot has the key.
use Rattle.std.proofs.Common.{◌≡◌, ◌≢◌, ℕ, zero, suc, ◌+◌, ◌<◌, false, cond, List, [], ◌∷◌, length, Option, None, Some, count_by, sym, refl, ◌∙◌, ap, nat_eq, arith, eq-eqb, ne_eqb, set, get_or, drop, replicate, ◌≤◌}
use Rattle.std.specs.List.{AllByRecursion, IsDistinct}
use Rattle.std.specs.Map.{keys_of, lookup}
use Rattle.std.proofs.lemmas.List.{drop_more}
use Rattle.std.proofs.lemmas.List.Sums.{sum_by-cons}
use Rattle.stripe_shard.specs.declared.slot.Slot.{Slot}
use Rattle.stripe_shard.specs.declared.slot.Slot.TheVariants.{Empty, Removed, Full}
use Rattle.stripe_shard.specs.Slots.{is_full, key_at, key_in, pairs_of, slot_at, value_in}

abbrev pub found : List Slot → ℕ → Option ℕ
found slots key = lookup (nat_eq key) (pairs_of slots)

some_apart : (a b : ℕ) → a ≢ b → Some a ≢ Some b
some_apart a b other same = other cc

apart_some : (a b : ℕ) → Some a ≢ Some b → a ≢ b
apart_some a b other same = other (ap Some same)

-- If a slot without the key is put in front of other slots, the key's value does not change.
found_behind : (slot : Slot) (slots : List Slot) (key : ℕ) → key_in slot ≢ Some key → found (slot ∷ slots) key ≡ found slots key
found_behind Empty slots key other = refl
found_behind (Removed k) slots key other = refl
found_behind (Full k v) slots key other = ap (λ b. cond b (Some v) (found slots key)) (ne_eqb key k (λ e. other (ap Some (sym e))))

pub found_nowhere : (slots : List Slot) (key : ℕ) → ((m : ℕ) → m < length slots → key_at slots m ≢ Some key) → found slots key ≡ None
found_nowhere [] key none = refl
found_nowhere (slot ∷ slots) key none = found_behind slot slots key (none 0 (omega arith)) ∙ found_nowhere slots key (λ m lt. none (suc m) (omega arith))

found_first : (slot : Slot) (slots : List Slot) (key : ℕ) → key_in slot ≡ Some key → found slots key ≡ None → found (slot ∷ slots) key ≡ value_in slot
found_first Empty slots key is none = none
found_first (Removed k) slots key is none = none
found_first (Full k v) slots key is none = ap (λ b. cond b (Some v) (found slots key)) (eq-eqb key k cc)

-- If exactly one slot has the key, the key's value is that of this slot.
pub found_at : (slots : List Slot) (key i : ℕ) → i < length slots → key_at slots i ≡ Some key
    → ((m : ℕ) → m < length slots → m ≢ i → key_at slots m ≢ Some key) → found slots key ≡ value_in (slot_at slots i)
found_at [] key i lt is only = absurd (omega arith)
found_at (slot ∷ slots) key zero lt is only = found_first slot slots key is (found_nowhere slots key (λ m l. only (suc m) (omega arith) (omega arith)))
found_at (slot ∷ slots) key (suc i) lt is only = found_behind slot slots key (only 0 (omega arith) (omega arith))
    ∙ found_at slots key i (omega arith) is (λ m l ne. only (suc m) (omega arith) (λ e. ne (omega arith)))

found_under : (slot : Slot) (slots later : List Slot) (key : ℕ) → found later key ≡ found slots key → found (slot ∷ later) key ≡ found (slot ∷ slots) key
found_under Empty slots later key same = same
found_under (Removed k) slots later key same = same
found_under (Full k v) slots later key same = ap (cond (nat_eq key k) (Some v)) same

-- Writing to a slot does not change the value of a key that the slot has neither before nor after
-- the write.
pub found_set : (slots : List Slot) (key i : ℕ) (slot : Slot) → key_at slots i ≢ Some key → key_in slot ≢ Some key → found (set slots i slot) key ≡ found slots key
found_set [] key i slot was now = refl
found_set (first ∷ slots) key zero slot was now = found_behind slot slots key now ∙ sym (found_behind first slots key was)
found_set (first ∷ slots) key (suc i) slot was now = found_under first slots (set slots i slot) key (found_set slots key i slot was now)

-- There are as many pairs as slots with a value.
pub length-pairs_of : (slots : List Slot) → length (pairs_of slots) ≡ count_by is_full slots
length-pairs_of [] = refl
length-pairs_of (Empty ∷ slots) = length-pairs_of slots ∙ sym (sum_by-cons (λ s. cond (is_full s) 1 0) Empty slots ∙ omega arith)
length-pairs_of (Removed k ∷ slots) = length-pairs_of slots ∙ sym (sum_by-cons (λ s. cond (is_full s) 1 0) (Removed k) slots ∙ omega arith)
length-pairs_of (Full k v ∷ slots) = let rest = length-pairs_of slots in let sum = sum_by-cons (λ s. cond (is_full s) 1 0) (Full k v) slots in omega arith

-- If no key is in two slots, no two pairs have the same key.
others : (slots : List Slot) (key : ℕ) → ((m : ℕ) → m < length slots → key_at slots m ≢ Some key) → AllByRecursion (λ other. nat_eq key other ≡ false) (keys_of (pairs_of slots))
others [] key none = tt
others (Empty ∷ slots) key none = others slots key (λ m lt. none (suc m) (omega arith))
others (Removed k ∷ slots) key none = others slots key (λ m lt. none (suc m) (omega arith))
others (Full k v ∷ slots) key none = (ne_eqb key k (λ e. none 0 (omega arith) (ap Some (sym e))), others slots key (λ m lt. none (suc m) (omega arith)))

pub distinct : (slots : List Slot) → ((key i j : ℕ) → i < length slots → j < length slots → key_at slots i ≡ Some key → key_at slots j ≡ Some key → i ≡ j) → IsDistinct nat_eq (keys_of (pairs_of slots))
unfolding IsDistinct
distinct [] one = tt
distinct (Empty ∷ slots) one = distinct slots (λ key i j li lj a b. let e = one key (suc i) (suc j) (omega arith) (omega arith) a b in omega arith)
distinct (Removed k ∷ slots) one = distinct slots (λ key i j li lj a b. let e = one key (suc i) (suc j) (omega arith) (omega arith) a b in omega arith)
distinct (Full k v ∷ slots) one = (
  others slots k (λ m lt is. let e = one k 0 (suc m) (omega arith) (omega arith) refl is in absurd (omega arith)),
  distinct slots (λ key i j li lj a b. let e = one key (suc i) (suc j) (omega arith) (omega arith) a b in omega arith),
)

-- The pairs in the slots from place `i` on are the pair in slot `i`, if it has one, and the pairs
-- in the slots after it.
pub pairs_of-drop : (slots : List Slot) (i : ℕ) (d : Slot) → i < length slots → pairs_of (drop i slots) ≡ pairs_of (get_or slots i d ∷ drop (i + 1) slots)
pairs_of-drop slots i d lt = ap pairs_of (drop_more slots i d lt)

pub length-pairs_of-drop : (slots : List Slot) (i : ℕ) → length (pairs_of (drop i slots)) ≤ length (pairs_of slots)
length-pairs_of-drop slots zero = omega arith
length-pairs_of-drop [] (suc i) = omega arith
length-pairs_of-drop (Empty ∷ slots) (suc i) = length-pairs_of-drop slots i
length-pairs_of-drop (Removed k ∷ slots) (suc i) = length-pairs_of-drop slots i
length-pairs_of-drop (Full k v ∷ slots) (suc i) = let rest = length-pairs_of-drop slots i in omega arith

pub pairs_of-replicate : (n : ℕ) → pairs_of (replicate n Empty) ≡ []
pairs_of-replicate zero = refl
pairs_of-replicate (suc n) = pairs_of-replicate n

-- If the slot just before `left` has a value, the slots from `left` on hold fewer pairs than all
-- the slots together.
pub pairs_more : (slots : List Slot) (i left : ℕ) (d : Slot) (k v : ℕ) → i + 1 ≡ left → left ≤ length slots → get_or slots i d ≡ Full k v
    → length (pairs_of (drop left slots)) + 1 ≤ length (pairs_of slots)
pairs_more slots i left d k v next within is =
    let all = length-pairs_of-drop slots i in
    let here : length (pairs_of (drop i slots)) ≡ length (pairs_of (Full k v ∷ drop left slots)) =
    ap length (pairs_of-drop slots i d (omega arith) ∙ ap (λ s. pairs_of (s ∷ drop (i + 1) slots)) is ∙ ap (λ n. pairs_of (Full k v ∷ drop n slots)) next) in
    omega arith
