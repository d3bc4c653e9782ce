-- Shows that an order keeps real time by the numbers of transactions exactly if it does by their
-- places among the commits, because the places of those that had committed when a transaction began
-- are the first ones.
use Rattle.std.proofs.Common.{◌≡◌, ℕ, zero, suc, ◌+◌, ◌<◌, ◌≤◌, Bool, true, false, List, [], ◌∷◌, length, get_or, map, refl, ap, sym, ◌∙◌, subst, arith}
use Rattle.std.proofs.lemmas.Bool.{cases_eq, cases_lt}
use mathlib.Core.Logic.{inl, inr}
use Rattle.txn_words.specs.declared.entry.Entry.{Entry}
use Rattle.txn_trace.specs.History.{commits}
use Rattle.order_check.specs.Lists.{IsIn, AreApart, HasEachOnce, place}
use Rattle.order_check.specs.Orders.{KeepsTime}
use Rattle.order_check.specs.RealTime.{IsEarlierIf, IsSerialOrderIf, IsSerializableIf}
use Rattle.order_check.specs.Serializable.{IsCommitted, IsSerialOrder}
use Rattle.order_check.specs.Timing.{IsSince, IsTiming, since_in}
use Rattle.order_check.proofs.Beginnings.{below_in}
use Rattle.order_check.proofs.Numbers.{in_names, name_at, place_at, place_below}
use Rattle.order_check.proofs.Places.{in_rest, place-here, place-later}

-- A renaming that keeps different transactions different keeps their places.
place_map : (f g : ℕ → ℕ) (ts : List ℕ) → ((t : ℕ) → IsIn t ts → g (f t) ≡ t) → (t : ℕ) → IsIn t ts → place (f t) (map f ts) ≡ place t ts
place_map f g [] back t is_in = absurd is_in
place_map f g (x ∷ xs) back t is_in = elim (cases_eq x t) [
  | inl same ↦ place-here (f x) (f t) (map f xs) (ap f same) ∙ sym (place-here x t xs same)
  | inr other ↦
      let differ : f x ≡ f t → ⊥ = λ same. other (sym (back x (inl refl)) ∙ ap g same ∙ back t is_in) in
      place-later (f x) (f t) (map f xs) differ ∙ ap (λ n. n + 1) (place_map f g xs (λ u in_u. back u (inr in_u)) t (in_rest x t xs other is_in)) ∙ sym (place-later x t xs other)
]

pub past_zero : (since : List ℕ) (u : ℕ) → length since ≤ u → since_in since u ≡ 0
past_zero [] u past = refl
past_zero (n ∷ since) zero past = absurd (omega arith)
past_zero (n ∷ since) (suc u) past = past_zero since u (omega arith)

-- Only transactions began after others.
pub timed_below : (count : ℕ) (since : List ℕ) → IsTiming count since → (t u : ℕ) → t < since_in since u → (t < u) × (u < count)
timed_below count since timing t u less = elim (cases_lt u count) [
  | inl below ↦ let early = timing.early u in (omega arith, below)
  | inr past ↦
      let len = timing.len in
      let none = past_zero since u (omega arith) in
      absurd (omega arith)
]

-- Real time by the numbers of the transactions, if it counts.
abbrev pub KeepsTimeIf : Bool → List Entry → List ℕ → Type 0
KeepsTimeIf b h ts = (t u : ℕ) → IsCommitted h u → IsEarlierIf b h t u → place t ts < place u ts

pub order_if : (b : Bool) (h : List Entry) (ts : List ℕ) → IsSerialOrder h ts → KeepsTimeIf b h ts → IsSerialOrderIf b h ts
order_if false h ts order keeps = order
order_if true h ts order keeps = (order, keeps)

pub record Ordered (b : Bool) (h : List Entry) : Type 0 where
  pub order : List ℕ
  pub in_order : IsSerialOrder h order
  pub in_time : KeepsTimeIf b h order

pub ordered_if : (b : Bool) (h : List Entry) → IsSerializableIf b h → Ordered b h
ordered_if false h is = record { order = is.order; in_order = is.in_order; in_time = λ t u committed never. absurd never }
ordered_if true h is = record { order = is.order; in_order = is.in_order; in_time = is.in_time }

module _ (b : Bool) (h : List Entry) (apart : AreApart (commits h)) (since : List ℕ) (timing : IsTiming (length (commits h)) since)
    (sinces : (i : ℕ) → i < length (commits h) → IsSince b h (get_or (commits h) i 0) (since_in since i)) where
  abbrev name : ℕ → ℕ
  name i = get_or (commits h) i 0

  abbrev at : ℕ → ℕ
  at t = place t (commits h)

  -- Who had committed when `u` began has a place among the first ones.
  first_ones : (t u : ℕ) → IsCommitted h u → IsEarlierIf b h t u → at t < since_in since (at u)
  first_ones t u committed earlier =
      (sinces (at u) (place_below (commits h) u committed)).to t (subst (IsEarlierIf b h t) (sym (name_at (commits h) u committed)) earlier)

  pub time_named : (ts : List ℕ) → HasEachOnce (λ i. i < length (commits h)) ts → KeepsTime (since_in since) ts → KeepsTimeIf b h (map name ts)
  time_named ts each keeps t u committed earlier =
      let first = first_ones t u committed earlier in
      let parts = timed_below (length (commits h)) since timing (at t) (at u) first in
      let there : IsCommitted h t = below_in t (commits h) (let a = parts.0 in let z = parts.1 in omega arith) in
      let before : place (at t) ts < place (at u) ts = keeps (at t) (at u) first in
      let placed : (v : ℕ) → IsCommitted h v → place v (map name ts) ≡ place (at v) ts = λ v in_v.
      ap (λ x. place x (map name ts)) (sym (name_at (commits h) v in_v)) ∙ place_map name at ts (λ i in_ts. place_at (commits h) i apart (each.only i in_ts)) (at v) (each.all (at v) (place_below (commits h) v in_v)) in
      let a = placed t there in
      let z = placed u committed in
      omega arith

  pub time_placed : (ts : List ℕ) → HasEachOnce (IsCommitted h) ts → KeepsTimeIf b h ts → KeepsTime (since_in since) (map at ts)
  time_placed ts each keeps t u less =
      let parts = timed_below (length (commits h)) since timing t u less in
      let below_u = parts.1 in
      let below_t : t < length (commits h) = let a = parts.0 in omega arith in
      let place_t = place_at (commits h) t apart below_t in
      let earlier : IsEarlierIf b h (name t) (name u) = (sinces u below_u).from (name t) (omega arith) in
      let before : place (name t) ts < place (name u) ts = keeps (name t) (name u) (in_names (commits h) u below_u) earlier in
      let placed : (i : ℕ) → i < length (commits h) → place i (map at ts) ≡ place (name i) ts = λ i below.
      ap (λ x. place x (map at ts)) (sym (place_at (commits h) i apart below)) ∙ place_map at name ts (λ v in_ts. name_at (commits h) v (each.only v in_ts)) (name i) (each.all (name i) (in_names (commits h) i below)) in
      let a = placed t below_t in
      let z = placed u below_u in
      omega arith

  -- By places, an edge of real time is one.
  pub earlier_named : (t u : ℕ) → t < since_in since u → (t < length (commits h)) × (u < length (commits h)) × IsEarlierIf b h (name t) (name u)
  earlier_named t u less =
      let parts = timed_below (length (commits h)) since timing t u less in
      let below_t : t < length (commits h) = let a = parts.0 in let z = parts.1 in omega arith in
      let place_t = place_at (commits h) t apart below_t in
      (below_t, parts.1, (sinces u parts.1).from (name t) (omega arith))
