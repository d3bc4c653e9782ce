-- Orders of transactions by their numbers, and by their places in a list.
use Rattle.std.proofs.Common.{◌≡◌, ℕ, zero, suc, ◌+◌, ◌<◌, List, [], ◌∷◌, length, get_or, map, refl, ap, sym, ◌∙◌, subst, arith}
use Rattle.std.proofs.lemmas.Bool.{cases_eq}
use mathlib.Core.Logic.{inl, inr}
use Rattle.order_check.specs.Lists.{IsIn, AreApart, place}
use Rattle.order_check.specs.Footprints.{Footprint, Values, no_values, leaves, RunsFrom}
use Rattle.order_check.specs.Orders.{IsOrderOf}
use Rattle.order_check.proofs.Places.{place-here, place-later, in_rest}

pub name_at : (names : List ℕ) (t : ℕ) → IsIn t names → get_or names (place t names) 0 ≡ t
name_at [] t is_in = absurd is_in
name_at (x ∷ xs) t is_in = elim (cases_eq x t) [
  | inl same ↦ ap (λ n. get_or (x ∷ xs) n 0) (place-here x t xs same) ∙ same
  | inr other ↦
      let later : place t (x ∷ xs) ≡ suc (place t xs) = place-later x t xs other ∙ omega arith in
      ap (λ n. get_or (x ∷ xs) n 0) later ∙ name_at xs t (in_rest x t xs other is_in)
]

pub place_below : (names : List ℕ) (t : ℕ) → IsIn t names → place t names < length names
place_below [] t is_in = absurd is_in
place_below (x ∷ xs) t is_in = elim (cases_eq x t) [
  | inl same ↦ first same
  | inr other ↦ later other (place_below xs t (in_rest x t xs other is_in))
]
  where
    first : x ≡ t → place t (x ∷ xs) < length (x ∷ xs)
    first same = let e = place-here x t xs same in omega arith

    later : (x ≡ t → ⊥) → place t xs < length xs → place t (x ∷ xs) < length (x ∷ xs)
    later other below = let e = place-later x t xs other in omega arith

pub in_names : (names : List ℕ) (i : ℕ) → i < length names → IsIn (get_or names i 0) names
in_names [] i below = absurd (omega arith)
in_names (x ∷ xs) zero below = inl refl
in_names (x ∷ xs) (suc i) below = inr (in_names xs i (omega arith))

pub place_at : (names : List ℕ) (i : ℕ) → AreApart names → i < length names → place (get_or names i 0) names ≡ i
place_at [] i apart below = absurd (omega arith)
place_at (x ∷ xs) zero apart below = place-here x x xs refl
place_at (x ∷ xs) (suc i) apart below =
    let there = in_names xs i (omega arith) in
    place-later x (get_or xs i 0) xs (λ same. apart.0 (subst (λ t. IsIn t xs) (sym same) there)) ∙ ap (λ n. n + 1) (place_at xs i apart.1 (omega arith)) ∙ omega arith

in_map : (f : ℕ → ℕ) (t : ℕ) (ts : List ℕ) → IsIn t ts → IsIn (f t) (map f ts)
in_map f t [] is_in = absurd is_in
in_map f t (x ∷ xs) is_in = elim is_in [
  | inl same ↦ inl (ap f same)
  | inr rest ↦ inr (in_map f t xs rest)
]

from_map : (f : ℕ → ℕ) (u : ℕ) (ts : List ℕ) → IsIn u (map f ts) → (t : ℕ) × IsIn t ts × (f t ≡ u)
from_map f u [] is_in = absurd is_in
from_map f u (x ∷ xs) is_in = elim is_in [
  | inl same ↦ (x, inl refl, same)
  | inr rest ↦ let r = from_map f u xs rest in (r.0, inr r.1, r.2)
]

-- A renaming that keeps different transactions different.
apart_map : (f g : ℕ → ℕ) (ts : List ℕ) → ((t : ℕ) → IsIn t ts → g (f t) ≡ t) → AreApart ts → AreApart (map f ts)
apart_map f g [] back apart = tt
apart_map f g (x ∷ xs) back apart = (
  λ is_in.
      let r = from_map f (f x) xs is_in in
      let same : r.0 ≡ x = sym (back r.0 (inr r.1)) ∙ ap g r.2 ∙ back x (inl refl) in
      apart.0 (subst (λ t. IsIn t xs) same r.1),
  apart_map f g xs (λ t is_in. back t (inr is_in)) apart.1,
)

runs_map : (footprints footprints' : ℕ → Footprint) (f : ℕ → ℕ) (vs : Values) (ts : List ℕ) → ((t : ℕ) → IsIn t ts → footprints' (f t) ≡ footprints t) → RunsFrom footprints vs ts → RunsFrom footprints' vs (map f ts)
runs_map footprints footprints' f vs [] same runs = tt
runs_map footprints footprints' f vs (t ∷ ts) same runs =
    let is = same t (inl refl) in
    subst (λ footprint. record { 0 : (k : ℕ) → Rattle.std.specs.Option.IfSome (footprint k) (λ cell. vs k ≡ cell.need); 1 : RunsFrom footprints' (leaves footprint vs) (map f ts) }) (sym is)
    (runs.0, runs_map footprints footprints' f (leaves (footprints t) vs) ts (λ u is_in. same u (inr is_in)) runs.1)

-- Real time does not count.
abbrev pub no_time : ℕ → ℕ
no_time u = 0

-- `names` has the number of each transaction.
module _ (names : List ℕ) (apart : AreApart names) (footprints : ℕ → Footprint) where
  abbrev pub named : ℕ → Footprint
  named t = footprints (place t names)

  -- An order by places, with the numbers instead.
  pub order_named : (since : ℕ → ℕ) (ts : List ℕ) → IsOrderOf (λ i. i < length names) footprints since ts → IsOrderOf (λ t. IsIn t names) named no_time (map (λ i. get_or names i 0) ts)
  order_named since ts order = record {
    each = record {
      apart = apart_map (λ i. get_or names i 0) (λ t. place t names) ts (λ i is_in. place_at names i apart (order.each.only i is_in)) order.each.apart;
      all = λ t is_in. subst (λ u. IsIn u (map (λ i. get_or names i 0) ts)) (name_at names t is_in) (in_map (λ i. get_or names i 0) (place t names) ts (order.each.all (place t names) (place_below names t is_in)));
      only = λ t is_in.
          let r = from_map (λ i. get_or names i 0) t ts is_in in
          subst (λ u. IsIn u names) r.2 (in_names names r.0 (order.each.only r.0 r.1));
    };
    runs = runs_map footprints named (λ i. get_or names i 0) no_values ts (λ i is_in. ap footprints (place_at names i apart (order.each.only i is_in))) order.runs;
    in_time = λ t u less. absurd (omega arith);
  }

  -- An order by numbers, with the places instead.
  pub order_placed : (ts : List ℕ) → IsOrderOf (λ t. IsIn t names) named no_time ts → IsOrderOf (λ i. i < length names) footprints no_time (map (λ t. place t names) ts)
  order_placed ts order = record {
    each = record {
      apart = apart_map (λ t. place t names) (λ i. get_or names i 0) ts (λ t is_in. name_at names t (order.each.only t is_in)) order.each.apart;
      all = λ i below. subst (λ j. IsIn j (map (λ t. place t names) ts)) (place_at names i apart below) (in_map (λ t. place t names) (get_or names i 0) ts (order.each.all (get_or names i 0) (in_names names i below)));
      only = λ i is_in.
          let r = from_map (λ t. place t names) i ts is_in in
          subst (λ j. j < length names) r.2 (place_below names r.0 (order.each.only r.0 r.1));
    };
    runs = runs_map named footprints (λ t. place t names) no_values ts (λ t is_in. refl) order.runs;
    in_time = λ t u less. absurd (omega arith);
  }
