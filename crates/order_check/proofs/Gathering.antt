-- The accesses of one more transaction.
use Rattle.std.proofs.Common.{◌≡◌, ℕ, ◌+◌, ◌<◌, ◌≤◌, ◌==◌, ◌&&◌, cond, Bool, List, [], ◌∷◌, ◌++◌, map, Option, Some, None, refl, ap, sym, ◌∙◌, subst, arith, append_assoc, Bor}
use Rattle.std.specs.List.{AllByRecursion}
use Rattle.std.specs.List.Sorted.{IsStrictlySortedBy}
use Rattle.std.specs.Map.{lookup}
use Rattle.std.specs.Map.Iter.{deref_pair}
use Rattle.std.specs.Ordering.{nat_cmp}
use Rattle.std.specs.BTreeMap.{is_at}
use Rattle.std.proofs.lemmas.Bool.{eq-eqb, ne_eqb}
use mathlib.Core.Logic.{◌⊎◌, inl, inr}
use Rattle.history_check.proofs.OneKey.{is_at-nat}
use Rattle.order_check.specs.declared.access.Access.{Access}
use Rattle.order_check.specs.Accesses.{access_of, accesses_of}
use Rattle.order_check.specs.Footprints.{Cell}
use Rattle.order_check.specs.InTurn.{AreRising}
use Rattle.order_check.specs.Joined.{AreDistinct}
use Rattle.order_check.specs.Outcomes.{cell_of, footprints_of, ArePlain}
use Rattle.order_check.specs.Tables.{IsAmong}

abbrev pub Items : Type 0
Items = List (Bor ℕ × Bor Cell)

accesses_more : (txn : ℕ) (ys : Items) (y : Bor ℕ × Bor Cell) → accesses_of txn (map deref_pair (ys ++ y ∷ [])) ≡ accesses_of txn (map deref_pair ys) ++ access_of txn (deref_pair y) ∷ []
accesses_more txn [] y = refl
accesses_more txn (x ∷ ys) y = ap (λ more. access_of txn (deref_pair x) ∷ more) (accesses_more txn ys y)

-- One more access was pushed.
pub accesses_push : (old now new : List Access) (txn : ℕ) (ys : Items) (y : Bor ℕ × Bor Cell) → now ≡ old ++ accesses_of txn (map deref_pair ys) → new ≡ now ++ access_of txn (deref_pair y) ∷ [] → new ≡ old ++ accesses_of txn (map deref_pair (ys ++ y ∷ []))
accesses_push old now new txn ys y before is =
    is ∙ ap (λ more. more ++ access_of txn (deref_pair y) ∷ []) before ∙ append_assoc old (accesses_of txn (map deref_pair ys)) (access_of txn (deref_pair y) ∷ []) ∙ ap (λ more. old ++ more) (sym (accesses_more txn ys y))

-- The accesses that are added give the transaction its cells, and leave those of others as they are.
module _ (txn : ℕ) where
  pub given_here : (cells : List (ℕ × Cell)) (k : ℕ) → footprints_of (accesses_of txn cells) txn k ≡ lookup (is_at (nat_cmp k)) cells
  given_here [] k = refl
  given_here (e ∷ es) k =
      ap (λ b. cond (b && (e.0 == k)) (Some e.1) (footprints_of (accesses_of txn es) txn k)) (eq-eqb txn txn refl)
      ∙ ap (λ b. cond b (Some e.1) (footprints_of (accesses_of txn es) txn k)) (sym (is_at-nat k e.0))
      ∙ ap (λ o. cond (is_at (nat_cmp k) e.0) (Some e.1) o) (given_here es k)

  pub given_none : (cells : List (ℕ × Cell)) (t k : ℕ) → (txn ≡ t → ⊥) → footprints_of (accesses_of txn cells) t k ≡ None
  given_none [] t k apart = refl
  given_none (e ∷ es) t k apart = ap (λ b. cond (b && (e.0 == k)) (Some e.1) (footprints_of (accesses_of txn es) t k)) (ne_eqb txn t apart) ∙ given_none es t k apart

either : (b : Bool) (x : Access) (t k : ℕ) (f g : Option Cell) → f ≡ g → cond b (Some (cell_of x)) f ≡ cond b (Some (cell_of x)) g
either b x t k f g same = ap (cond b (Some (cell_of x))) same

pub old_footprint : (xs ys : List Access) (t : ℕ) → ((k : ℕ) → footprints_of ys t k ≡ None) → footprints_of (xs ++ ys) t ≡ footprints_of xs t
old_footprint xs ys t none = λ i k. at xs k i
  where
    at : (xs : List Access) (k : ℕ) → footprints_of (xs ++ ys) t k ≡ footprints_of xs t k
    at [] k = none k
    at (x ∷ xs) k = either ((x.txn == t) && (x.key == k)) x t k (footprints_of (xs ++ ys) t k) (footprints_of xs t k) (at xs k)

pub new_footprint : (xs ys : List Access) (t : ℕ) → ((a : Access) → IsAmong a xs → a.txn < t) → (k : ℕ) → footprints_of (xs ++ ys) t k ≡ footprints_of ys t k
new_footprint [] ys t below k = refl
new_footprint (x ∷ xs) ys t below k =
    ap (λ b. cond (b && (x.key == k)) (Some (cell_of x)) (footprints_of (xs ++ ys) t k)) (ne_eqb x.txn t (apart (below x (inl refl)))) ∙ new_footprint xs ys t (λ a is_in. below a (inr is_in)) k
  where
    apart : x.txn < t → x.txn ≡ t → ⊥
    apart less same = absurd (omega arith)

among_parts : (a : Access) (xs ys : List Access) → IsAmong a (xs ++ ys) → IsAmong a xs ⊎ IsAmong a ys
among_parts a [] ys is_in = inr is_in
among_parts a (x ∷ xs) ys is_in = elim is_in [
  | inl same ↦ inl (inl same)
  | inr rest ↦ elim (among_parts a xs ys rest) [
    | inl before ↦ inl (inr before)
    | inr after ↦ inr after
  ]
]

txn_of : (txn : ℕ) (cells : List (ℕ × Cell)) (a : Access) → IsAmong a (accesses_of txn cells) → a.txn ≡ txn
txn_of txn [] a is_in = absurd is_in
txn_of txn (e ∷ es) a is_in = elim is_in [
  | inl same ↦ ap (λ (b : Access). b.txn) (sym same)
  | inr rest ↦ txn_of txn es a rest
]

rising_same : (n txn : ℕ) (cells : List (ℕ × Cell)) → n ≤ txn → AreRising n (accesses_of txn cells)
rising_same n txn [] le = tt
rising_same n txn (e ∷ es) le = (le, rising_same txn txn es (omega arith))

rising_more : (n txn : ℕ) (xs : List Access) (cells : List (ℕ × Cell)) → AreRising n xs → n ≤ txn → ((a : Access) → IsAmong a xs → a.txn < txn) → AreRising n (xs ++ accesses_of txn cells)
rising_more n txn [] cells rising le below = rising_same n txn cells le
rising_more n txn (x ∷ xs) cells rising le below = (rising.0, rising_more x.txn txn xs cells rising.1 (let less = below x (inl refl) in omega arith) (λ a is_in. below a (inr is_in)))

-- The cells of a sorted map have different keys.
key_above : (txn k : ℕ) (cells : List (ℕ × Cell)) (a : Access) → AllByRecursion (λ y. nat_cmp k y ≡ Rattle.std.specs.declared.cmp.Ordering.TheVariants.Less) (map (λ (e : ℕ × Cell). e.0) cells) → IsAmong a (accesses_of txn cells) → k ≡ a.key → ⊥
key_above txn k [] a above is_in same = is_in
key_above txn k (e ∷ es) a above is_in same = elim is_in [
  | inl here ↦ less_self (subst (λ q. nat_cmp q e.0 ≡ Rattle.std.specs.declared.cmp.Ordering.TheVariants.Less) (same ∙ ap (λ (b : Access). b.key) (sym here)) above.0)
  | inr rest ↦ key_above txn k es a above.1 rest same
]
  where
    less_self : nat_cmp e.0 e.0 ≡ Rattle.std.specs.declared.cmp.Ordering.TheVariants.Less → ⊥
    less_self less = absurd (let self = is_at-nat e.0 e.0 ∙ eq-eqb e.0 e.0 refl in cc (sym self ∙ ap Rattle.std.specs.Ordering.is_eq less))

distinct_cells : (txn : ℕ) (cells : List (ℕ × Cell)) → IsStrictlySortedBy nat_cmp (map (λ (e : ℕ × Cell). e.0) cells) → AreDistinct (accesses_of txn cells)
unfolding IsStrictlySortedBy
distinct_cells txn [] sorted = tt
distinct_cells txn (e ∷ es) sorted = (λ a is_in same_txn same_key. key_above txn e.0 es a sorted.0 is_in same_key, distinct_cells txn es sorted.1)

distinct_more : (txn : ℕ) (xs : List Access) (cells : List (ℕ × Cell)) → AreDistinct xs → ((a : Access) → IsAmong a xs → a.txn < txn) → IsStrictlySortedBy nat_cmp (map (λ (e : ℕ × Cell). e.0) cells) → AreDistinct (xs ++ accesses_of txn cells)
distinct_more txn [] cells distinct below sorted = distinct_cells txn cells sorted
distinct_more txn (x ∷ xs) cells distinct below sorted = (
  λ a is_in same_txn same_key. elim (among_parts a xs (accesses_of txn cells) is_in) [
    | inl before ↦ distinct.0 a before same_txn same_key
    | inr after ↦ let less = below x (inl refl) in let is = txn_of txn cells a after in absurd (omega arith)
  ],
  distinct_more txn xs cells distinct.1 (λ a is_in. below a (inr is_in)) sorted,
)

pub plain_none : ArePlain 0 []
plain_none = record { below = λ a is_in. absurd is_in; distinct = tt; rising = tt }

pub plain_more : (n m : ℕ) (xs : List Access) (cells : List (ℕ × Cell)) → m ≡ n + 1 → ArePlain n xs → IsStrictlySortedBy nat_cmp (map (λ (e : ℕ × Cell). e.0) cells) → ArePlain m (xs ++ accesses_of n cells)
plain_more n m xs cells m_is plain sorted = record {
  below = λ a is_in. elim (among_parts a xs (accesses_of n cells) is_in) [
    | inl before ↦ let less = plain.below a before in omega arith
    | inr new ↦ let txn_is = txn_of n cells a new in omega arith
  ];
  distinct = distinct_more n xs cells plain.distinct plain.below sorted;
  rising = rising_more 0 n xs cells plain.rising (omega arith) plain.below;
}
