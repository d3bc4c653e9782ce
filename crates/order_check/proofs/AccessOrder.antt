-- Shows that the accesses run in the order of the list exactly if the transactions run in the order
-- of their numbers, because the accesses of a transaction are together, before those of later ones.
use Rattle.std.proofs.Common.{◌≡◌, ℕ, zero, suc, ◌+◌, ◌<◌, ◌≤◌, ◌==◌, ◌&&◌, cond, Bool, true, false, List, [], ◌∷◌, ◌++◌, length, map, drop, get_or, Option, Some, None, refl, ap, sym, ◌∙◌, subst, arith}
use Rattle.std.specs.List.{range_with_len}
use Rattle.std.specs.Option.{IfSome}
use Rattle.std.proofs.lemmas.Bool.{cases_eq, cases_order, eq-eqb, ne_eqb}
use mathlib.Core.Logic.{inl, inr}
use Rattle.order_check.specs.declared.access.Access.{Access}
use Rattle.std.specs.Prelude.{nat_eq}
use Rattle.std.specs.HashMap.{HashMap, IsEmpty, get as told_at}
use Rattle.std.specs.Map.{lookup}
use Rattle.std.proofs.lemmas.List.{drop_more, drop_all}
use Rattle.order_check.specs.Footprints.{Cell, Footprint, Values, no_values, Meets, leaves, value_seen, RunsFrom}
use Rattle.order_check.specs.InTurn.{after_access, RunInTurn, AreRising, value_or_none, value_in}
use Rattle.order_check.specs.Joined.{AreDistinct}
use Rattle.order_check.specs.Lists.{IsIn, AreApart, place}
use Rattle.order_check.specs.Orders.{IsOrderOf}
use Rattle.order_check.specs.Outcomes.{cell_of, footprints_of, IsTxn, ArePlain}
use Rattle.order_check.specs.Tables.{IsAmong}
use Rattle.order_check.proofs.Numbers.{place_at}
use Rattle.order_check.proofs.Places.{place-here, place-later}

-- Runs depend only on the footprints of the transactions that run.
pub runs_alike : (footprints others : ℕ → Footprint) (vs : Values) (ts : List ℕ) → ((t : ℕ) → IsIn t ts → others t ≡ footprints t) → RunsFrom footprints vs ts → RunsFrom others vs ts
runs_alike footprints others vs [] same runs = tt
runs_alike footprints others vs (t ∷ ts) same runs =
    let is = same t (inl refl) in
    (subst (λ f. Meets f vs) (sym is) runs.0, subst (λ f. RunsFrom others (leaves f vs) ts) (sym is) (runs_alike footprints others (leaves (footprints t) vs) ts (λ u is_in. same u (inr is_in)) runs.1))

-- The first access is one of the transaction `n`, or all accesses are of later transactions.
module _ (a : Access) (rest : List Access) where
  here_at : (t k : ℕ) → a.txn ≡ t → a.key ≡ k → footprints_of (a ∷ rest) t k ≡ Some (cell_of a)
  here_at t k txn key = ap (λ b. cond (b && (a.key == k)) (Some (cell_of a)) (footprints_of rest t k)) (eq-eqb a.txn t txn) ∙ ap (λ b. cond b (Some (cell_of a)) (footprints_of rest t k)) (eq-eqb a.key k key)

  other_key : (t k : ℕ) → (a.key ≡ k → ⊥) → footprints_of (a ∷ rest) t k ≡ footprints_of rest t k
  other_key t k apart = ap (λ b. cond ((a.txn == t) && b) (Some (cell_of a)) (footprints_of rest t k)) (ne_eqb a.key k apart) ∙ neither (a.txn == t)
    where
      neither : (b : Bool) → cond (b && false) (Some (cell_of a)) (footprints_of rest t k) ≡ footprints_of rest t k
      neither true = refl
      neither false = refl

  other_txn : (t : ℕ) → (a.txn ≡ t → ⊥) → footprints_of (a ∷ rest) t ≡ footprints_of rest t
  other_txn t apart = λ i k. (ap (λ b. cond (b && (a.key == k)) (Some (cell_of a)) (footprints_of rest t k)) (ne_eqb a.txn t apart)) i

  distinct_none : ((b : Access) → IsAmong b rest → a.txn ≡ b.txn → a.key ≡ b.key → ⊥) → footprints_of rest a.txn a.key ≡ None
  distinct_none apart = none rest apart
    where
      none : (xs : List Access) → ((b : Access) → IsAmong b xs → a.txn ≡ b.txn → a.key ≡ b.key → ⊥) → footprints_of xs a.txn a.key ≡ None
      none [] differ = refl
      none (x ∷ xs) differ = elim (cases_eq x.txn a.txn) [
        | inl same_txn ↦ elim (cases_eq x.key a.key) [
          | inl same_key ↦ absurd (differ x (inl refl) (sym same_txn) (sym same_key))
          | inr other ↦
              ap (λ b. cond ((x.txn == a.txn) && b) (Some (cell_of x)) (footprints_of xs a.txn a.key)) (ne_eqb x.key a.key other)
              ∙ neither (x.txn == a.txn) xs ∙ none xs (λ b is_in. differ b (inr is_in))
        ]
        | inr other ↦
            ap (λ b. cond (b && (x.key == a.key)) (Some (cell_of x)) (footprints_of xs a.txn a.key)) (ne_eqb x.txn a.txn other)
            ∙ none xs (λ b is_in. differ b (inr is_in))
      ]
        where
          neither : (b : Bool) (ys : List Access) → cond (b && false) (Some (cell_of x)) (footprints_of ys a.txn a.key) ≡ footprints_of ys a.txn a.key
          neither true ys = refl
          neither false ys = refl

-- If all accesses are of later transactions, the transaction has no cell.
pub later_none : (xs : List Access) (n t k : ℕ) → AreRising n xs → t < n → footprints_of xs t k ≡ None
later_none [] n t k rising less = refl
later_none (x ∷ xs) n t k rising less =
    let apart : x.txn ≡ t → ⊥ = λ same. not_less same in
    ap (λ (f : Footprint). f k) (other_txn x xs t apart) ∙ later_none xs x.txn t k rising.1 below
  where
    not_less : x.txn ≡ t → ⊥
    not_less same = let le = rising.0 in omega arith

    below : t < x.txn
    below = let le = rising.0 in omega arith

module _ (n : ℕ) (a : Access) (rest : List Access) (vs : Values) (same : a.txn ≡ n) (apart : (b : Access) → IsAmong b rest → a.txn ≡ b.txn → a.key ≡ b.key → ⊥) where
  none_there : footprints_of rest n a.key ≡ None
  none_there = ap (λ t. footprints_of rest t a.key) (sym same) ∙ distinct_none a rest apart

  updated : (k : ℕ) → (a.key ≡ k → ⊥) → after_access vs a k ≡ vs k
  updated k other = ap (λ b. cond b a.left (vs k)) (ne_eqb a.key k other)

  written : (k : ℕ) → a.key ≡ k → after_access vs a k ≡ a.left
  written k key = ap (λ b. cond b a.left (vs k)) (eq-eqb a.key k key)

  -- The values after all accesses of the transaction.
  leaves_same : leaves (footprints_of (a ∷ rest) n) vs ≡ leaves (footprints_of rest n) (after_access vs a)
  leaves_same = λ i k. at k i
    where
      at : (k : ℕ) → leaves (footprints_of (a ∷ rest) n) vs k ≡ leaves (footprints_of rest n) (after_access vs a) k
      at k = elim (cases_eq a.key k) [
        | inl key ↦
            ap (value_seen (vs k)) (here_at a rest n k same key) ∙ sym (written k key)
            ∙ ap (value_seen (after_access vs a k)) (sym (ap (footprints_of rest n) (sym key) ∙ none_there))
        | inr other ↦
            ap (value_seen (vs k)) (other_key a rest n k other) ∙ ap (λ v. value_seen v (footprints_of rest n k)) (sym (updated k other))
      ]

  meets_from : vs a.key ≡ a.need → Meets (footprints_of rest n) (after_access vs a) → Meets (footprints_of (a ∷ rest) n) vs
  meets_from needs meets k = elim (cases_eq a.key k) [
    | inl key ↦ subst (λ o. IfSome o (λ (c : Cell). vs k ≡ c.need)) (sym (here_at a rest n k same key)) (ap vs (sym key) ∙ needs)
    | inr other ↦
        subst (λ o. IfSome o (λ (c : Cell). vs k ≡ c.need)) (sym (other_key a rest n k other))
        (subst (λ v. IfSome (footprints_of rest n k) (λ (c : Cell). v ≡ c.need)) (updated k other) (meets k))
  ]

  meets_to : Meets (footprints_of (a ∷ rest) n) vs → Meets (footprints_of rest n) (after_access vs a)
  meets_to meets k = elim (cases_eq a.key k) [
    | inl key ↦ subst (λ o. IfSome o (λ (c : Cell). after_access vs a k ≡ c.need)) (sym (ap (footprints_of rest n) (sym key) ∙ none_there)) tt
    | inr other ↦
        subst (λ v. IfSome (footprints_of rest n k) (λ (c : Cell). v ≡ c.need)) (sym (updated k other))
        (subst (λ o. IfSome o (λ (c : Cell). vs k ≡ c.need)) (other_key a rest n k other) (meets k))
  ]

  need_there : Meets (footprints_of (a ∷ rest) n) vs → vs a.key ≡ a.need
  need_there meets = subst (λ o. IfSome o (λ (c : Cell). vs a.key ≡ c.need)) (here_at a rest n a.key same refl) (meets a.key)

-- The accesses run in turn exactly if the transactions do.
pub record AreAlike (ts : List ℕ) (xs : List Access) : Type 0 where
  pub to : (vs : Values) → RunInTurn vs xs → RunsFrom (footprints_of xs) vs ts
  pub from : (vs : Values) → RunsFrom (footprints_of xs) vs ts → RunInTurn vs xs

abbrev pub AreBelow : ℕ → List Access → Type 0
AreBelow n xs = (a : Access) → IsAmong a xs → a.txn < n

module _ (n : ℕ) (ts : List ℕ) (end : ℕ) (after_n : (t : ℕ) → IsIn t ts → n < t) (later : (xs : List Access) → AreRising (n + 1) xs → AreBelow end xs → AreDistinct xs → AreAlike ts xs) where
  one_more : (xs : List Access) → AreRising n xs → AreBelow end xs → AreDistinct xs → AreAlike (n ∷ ts) xs
  one_more [] rising below distinct =
      let rest = later [] tt (λ a is_in. absurd is_in) tt in
      record { to = λ vs runs. (λ k. tt, rest.to vs runs); from = λ vs runs. tt }
  one_more (a ∷ rest) rising below distinct = elim (cases_eq a.txn n) [
    | inl same ↦
        let before = one_more rest (subst (λ m. AreRising m rest) same rising.1) (λ b is_in. below b (inr is_in)) distinct.1 in
        let alike : (t : ℕ) → IsIn t ts → footprints_of (a ∷ rest) t ≡ footprints_of rest t = λ t is_in. other_txn a rest t (λ is. not_this t is_in same is) in
        record {
          to = λ vs runs.
              let r = before.to (after_access vs a) runs.1 in (
                meets_from n a rest vs same distinct.0 runs.0 r.0,
                subst (λ ws. RunsFrom (footprints_of (a ∷ rest)) ws ts) (sym (leaves_same n a rest vs same distinct.0)) (runs_alike (footprints_of rest) (footprints_of (a ∷ rest)) (leaves (footprints_of rest n) (after_access vs a)) ts alike r.1),
              );
          from = λ vs runs. (
            need_there n a rest vs same distinct.0 runs.0,
            before.from (after_access vs a) (
              meets_to n a rest vs same distinct.0 runs.0,
              runs_alike (footprints_of (a ∷ rest)) (footprints_of rest) (leaves (footprints_of rest n) (after_access vs a)) ts (λ t is_in. sym (alike t is_in)) (subst (λ ws. RunsFrom (footprints_of (a ∷ rest)) ws ts) (leaves_same n a rest vs same distinct.0) runs.1),
            ),
          );
        }
    | inr other ↦
        let up : AreRising (n + 1) (a ∷ rest) = (more other, rising.1) in
        let none : (k : ℕ) → footprints_of (a ∷ rest) n k ≡ None = λ k. later_none (a ∷ rest) (n + 1) n k up (omega arith) in
        let same_values : (vs : Values) → leaves (footprints_of (a ∷ rest) n) vs ≡ vs = λ vs i k. (ap (value_seen (vs k)) (none k)) i in
        let all = later (a ∷ rest) up below distinct in
        record {
          to = λ vs runs. (λ k. subst (λ o. IfSome o (λ (c : Cell). vs k ≡ c.need)) (sym (none k)) tt, subst (λ ws. RunsFrom (footprints_of (a ∷ rest)) ws ts) (sym (same_values vs)) (all.to vs runs));
          from = λ vs runs. all.from vs (subst (λ ws. RunsFrom (footprints_of (a ∷ rest)) ws ts) (same_values vs) runs.1);
        }
  ]
    where
      not_this : (t : ℕ) → IsIn t ts → a.txn ≡ n → a.txn ≡ t → ⊥
      not_this t is_in same is = let less = after_n t is_in in omega arith

      more : (a.txn ≡ n → ⊥) → n + 1 ≤ a.txn
      more other = elim (cases_order n a.txn) [
        | inl same ↦ absurd (other (sym same))
        | inr order ↦ elim order [
          | inl less ↦ omega arith
          | inr greater ↦ let le = rising.0 in absurd (omega arith)
        ]
      ]

in_range : (n count t : ℕ) → IsIn t (range_with_len n count) → (n ≤ t) × (t < n + count)
in_range n zero t is_in = absurd is_in
in_range n (suc count) t is_in = elim is_in [
  | inl same ↦ (omega arith, omega arith)
  | inr rest ↦ let r = in_range (n + 1) count t rest in let a = r.0 in let b = r.1 in (omega arith, omega arith)
]

in_range_all : (n count t : ℕ) → n ≤ t → t < n + count → IsIn t (range_with_len n count)
in_range_all n zero t low high = absurd (omega arith)
in_range_all n (suc count) t low high = elim (cases_eq n t) [
  | inl same ↦ inl same
  | inr other ↦ inr (in_range_all (n + 1) count t (up other) (omega arith))
]
  where
    up : (n ≡ t → ⊥) → n + 1 ≤ t
    up other = elim (cases_order n t) [
      | inl same ↦ absurd (other same)
      | inr order ↦ elim order [ inl less ↦ omega arith | inr greater ↦ absurd (omega arith) ]
    ]

range_apart : (n count : ℕ) → AreApart (range_with_len n count)
range_apart n zero = tt
range_apart n (suc count) = (λ is_in. let low = (in_range (n + 1) count n is_in).0 in absurd (omega arith), range_apart (n + 1) count)

pub are_alike : (count n : ℕ) (xs : List Access) → AreRising n xs → AreBelow (n + count) xs → AreDistinct xs → AreAlike (range_with_len n count) xs
are_alike zero n [] rising below distinct = record { to = λ vs runs. tt; from = λ vs runs. tt }
are_alike zero n (a ∷ rest) rising below distinct = let less = below a (inl refl) in let le = rising.0 in absurd (omega arith)
are_alike (suc count) n xs rising below distinct =
    one_more n (range_with_len (n + 1) count) (n + suc count) (λ t is_in. let r = (in_range (n + 1) count t is_in).0 in omega arith)
    (λ ys up under apart. are_alike count (n + 1) ys up (λ a is_in. let u = under a is_in in omega arith) apart)
    xs rising below distinct

-- If the accesses run in turn, the order of the transactions' numbers is an order of them.
range_suc : (a n : ℕ) → range_with_len a (suc n) ≡ range_with_len a n ++ (a + n) ∷ []
range_suc a zero = let e : a ≡ a + 0 = omega arith in ap (λ t. t ∷ []) e
range_suc a (suc n) = let e : a + 1 + n ≡ a + suc n = omega arith in ap (λ ts. a ∷ ts) (range_suc (a + 1) n ∙ ap (λ t. range_with_len (a + 1) n ++ t ∷ []) e)

pub range_more : (n : ℕ) → range_with_len 0 (n + 1) ≡ range_with_len 0 n ++ n ∷ []
range_more n =
    let up : n + 1 ≡ suc n = omega arith in
    let e : 0 + n ≡ n = omega arith in
    ap (range_with_len 0) up ∙ range_suc 0 n ∙ ap (λ t. range_with_len 0 n ++ t ∷ []) e

abbrev alike_all : (count : ℕ) (xs : List Access) → ArePlain count xs → AreAlike (range_with_len 0 count) xs
alike_all count xs plain = are_alike count 0 xs plain.rising (λ a is_in. let less = plain.below a is_in in omega arith) plain.distinct

place_in_range : (n count t : ℕ) → n ≤ t → t < n + count → place t (range_with_len n count) + n ≡ t
place_in_range n zero t low high = absurd (omega arith)
place_in_range n (suc count) t low high = elim (cases_eq n t) [
  | inl same ↦ let here = place-here n t (range_with_len (n + 1) count) same in omega arith
  | inr other ↦
      let rest = place_in_range (n + 1) count t (up other) (omega arith) in
      let after = place-later n t (range_with_len (n + 1) count) other in
      omega arith
]
  where
    up : (n ≡ t → ⊥) → n + 1 ≤ t
    up other = elim (cases_order n t) [
      | inl same ↦ absurd (other same)
      | inr order ↦ elim order [ inl less ↦ omega arith | inr greater ↦ absurd (omega arith) ]
    ]

pub order_in_turn : (count : ℕ) (since : ℕ → ℕ) (xs : List Access) → ((t u : ℕ) → t < since u → (t < u) × (u < count)) → ArePlain count xs → RunInTurn no_values xs → IsOrderOf (IsTxn count) (footprints_of xs) since (range_with_len 0 count)
order_in_turn count since xs early plain runs = record {
  each = record {
    apart = range_apart 0 count;
    all = λ t below. in_range_all 0 count t (omega arith) (omega arith);
    only = λ t is_in. let below = (in_range 0 count t is_in).1 in omega arith;
  };
  runs = (alike_all count xs plain).to no_values runs;
  in_time = λ t u less.
      let parts = early t u less in
      let forward = parts.0 in
      let below = parts.1 in
      let first = place_in_range 0 count t (omega arith) (omega arith) in
      let second = place_in_range 0 count u (omega arith) (omega arith) in
      omega arith;
}

-- And the other way round.
pub runs_in_turn : (count : ℕ) (xs : List Access) → ArePlain count xs → RunsFrom (footprints_of xs) no_values (range_with_len 0 count) → RunInTurn no_values xs
runs_in_turn count xs plain runs = (alike_all count xs plain).from no_values runs

-- The numbers from 0 on name all of a list.
shift : (f : ℕ → ℕ) (a n : ℕ) → map f (range_with_len (suc a) n) ≡ map (λ i. f (suc i)) (range_with_len a n)
shift f a zero = refl
shift f a (suc n) =
    let up : suc a + 1 ≡ suc (a + 1) = omega arith in
    ap (λ ts. f (suc a) ∷ ts) (ap (λ b. map f (range_with_len b n)) up ∙ shift f (a + 1) n)

pub names_all : (xs : List ℕ) → map (λ i. get_or xs i 0) (range_with_len 0 (length xs)) ≡ xs
names_all [] = refl
names_all (x ∷ xs) =
    let one : 0 + 1 ≡ suc 0 = omega arith in
    ap (λ ts. x ∷ ts) (ap (λ b. map (λ i. get_or (x ∷ xs) i 0) (range_with_len b (length xs))) one ∙ shift (λ i. get_or (x ∷ xs) i 0) 0 (length xs) ∙ names_all xs)

map_same : (f : ℕ → ℕ) (ts : List ℕ) → ((t : ℕ) → IsIn t ts → f t ≡ t) → map f ts ≡ ts
map_same f [] same = refl
map_same f (t ∷ ts) same = (λ i. same t (inl refl) i ∷ map_same f ts (λ u is_in. same u (inr is_in)) i)

map_twice : (f g : ℕ → ℕ) (ts : List ℕ) → map f (map g ts) ≡ map (λ t. f (g t)) ts
map_twice f g [] = refl
map_twice f g (t ∷ ts) = ap (λ us. f (g t) ∷ us) (map_twice f g ts)

pub places_all : (xs : List ℕ) → AreApart xs → map (λ t. place t xs) xs ≡ range_with_len 0 (length xs)
places_all xs apart =
    ap (map (λ t. place t xs)) (sym (names_all xs)) ∙ map_twice (λ t. place t xs) (λ i. get_or xs i 0) (range_with_len 0 (length xs))
    ∙ map_same (λ i. place (get_or xs i 0) xs) (range_with_len 0 (length xs)) (λ i is_in. place_at xs i apart (let below = (in_range 0 (length xs) i is_in).1 in omega arith))

values_none : {S : Type 0} (values : HashMap ℕ (Option ℕ) S) → IsEmpty values → value_in values ≡ no_values
values_none values empty = λ i k. (ap (λ es. value_or_none (lookup (nat_eq k) es)) empty) i

-- The turns of the loop: the accesses run exactly if those that are left run on the present values.
pub record Turns (xs : List Access) (vs : Values) (left : List Access) : Type 0 where
  pub to : RunInTurn no_values xs → RunInTurn vs left
  pub from : RunInTurn vs left → RunInTurn no_values xs

pub turns_begin : {S : Type 0} (xs : List Access) (values : HashMap ℕ (Option ℕ) S) → IsEmpty values → Turns xs (value_in values) xs
turns_begin xs values empty = subst (λ vs. Turns xs vs xs) (sym (values_none values empty)) (record { to = λ runs. runs; from = λ runs. runs })

after_is : {S : Type 0} (a : Access) (values new : HashMap ℕ (Option ℕ) S) → ((k : ℕ) → told_at nat_eq new k ≡ cond (nat_eq a.key k) (Some a.left) (told_at nat_eq values k)) → value_in new ≡ after_access (value_in values) a
after_is a values new updates = λ i k. (ap value_or_none (updates k) ∙ split (nat_eq a.key k) k) i
  where
    split : (b : Bool) (k : ℕ) → value_or_none (cond b (Some a.left) (told_at nat_eq values k)) ≡ cond b a.left (value_in values k)
    split true k = refl
    split false k = refl

module _ {S : Type 0} (xs : List Access) (i : ℕ) (d : Access) (below : i < length xs) (values : HashMap ℕ (Option ℕ) S) (turns : Turns xs (value_in values) (drop i xs)) where
  cut : drop i xs ≡ get_or xs i d ∷ drop (i + 1) xs
  cut = drop_more xs i d below

  pub turns_more : (new : HashMap ℕ (Option ℕ) S) → value_in values (get_or xs i d).key ≡ (get_or xs i d).need → ((k : ℕ) → told_at nat_eq new k ≡ cond (nat_eq (get_or xs i d).key k) (Some (get_or xs i d).left) (told_at nat_eq values k)) → Turns xs (value_in new) (drop (i + 1) xs)
  turns_more new needs updates =
      let now = after_is (get_or xs i d) values new updates in
      record {
        to = λ runs. subst (λ vs. RunInTurn vs (drop (i + 1) xs)) (sym now) (subst (RunInTurn (value_in values)) cut (turns.to runs)).1;
        from = λ runs. turns.from (subst (RunInTurn (value_in values)) (sym cut) (needs, subst (λ vs. RunInTurn vs (drop (i + 1) xs)) now runs));
      }

  pub turns_stop : (value_in values (get_or xs i d).key ≡ (get_or xs i d).need → ⊥) → RunInTurn no_values xs → ⊥
  turns_stop differ runs = differ (subst (RunInTurn (value_in values)) cut (turns.to runs)).0

pub turns_end : (xs : List Access) (i : ℕ) (vs : Values) → length xs ≤ i → Turns xs vs (drop i xs) → RunInTurn no_values xs
turns_end xs i vs end turns = turns.from (subst (RunInTurn vs) (sym (drop_all i xs end)) tt)
