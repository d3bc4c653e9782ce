-- A probe in two passes: first over the slots from its start on, and then over the slots before its
-- start.
use Rattle.std.proofs.Common.{◌≡◌, ℕ, ◌+◌, ◌-◌, ◌<◌, ◌≤◌, true, false, Option, Some, None, IfSome, unwrap_or, List, length, take, drop, inl, inr, ⊎_elim, arith, refl, sym, ap, subst, ◌∙◌, length-drop}
use Rattle.std.proofs.lemmas.Bool.{cases_lt}
use Rattle.std.proofs.lemmas.List.{get_or-drop, get_or-take, length-take}
use Rattle.stripe_shard.specs.declared.slot.Slot.{Slot}
use Rattle.stripe_shard.specs.declared.slot.Slot.TheVariants.{Empty}
use Rattle.stripe_shard.specs.Probes.{LeadsTo, stops}
use Rattle.stripe_shard.specs.Slots.{StopsAt, key_at, key_in}

-- `passes`: the probe for `key` does not stop at slot `j`. `passes_below`: the probe does not stop
-- at any slot below `n`.
abbrev passes : List Slot → ℕ → ℕ → Type 0
passes slots key j = stops (key_at slots j) key ≡ false

abbrev passes_below : List Slot → ℕ → ℕ → Type 0
passes_below slots key n = (j : ℕ) → j < n → passes slots key j

-- The slots, cut in two where the probe begins.
pub record IsCut (slots : List Slot) (start : ℕ) (front back : List Slot) : Type 0 where
  pub within : start ≤ length slots
  pub front_is : front ≡ take start slots
  pub back_is : back ≡ drop start slots

length_front : (slots front back : List Slot) (start : ℕ) → IsCut slots start front back → length front ≡ start
length_front slots front back start cut = let e : length front ≡ length (take start slots) = ap length cut.front_is in
    let w : start ≤ length slots = cut.within in omega (arith, length-take start slots, e)

length_back : (slots front back : List Slot) (start : ℕ) → IsCut slots start front back → start + length back ≡ length slots
length_back slots front back start cut = let e : length back ≡ length (drop start slots) = ap length cut.back_is in
    let w : start ≤ length slots = cut.within in omega (arith, length-drop start slots, e)

key_at-front : (slots front back : List Slot) (start j : ℕ) → IsCut slots start front back → j < start → key_at front j ≡ key_at slots j
key_at-front slots front back start j cut lt = ap (λ l. key_at l j) cut.front_is ∙ ap key_in (get_or-take start slots j Empty lt)

key_at-back : (slots front back : List Slot) (start i j : ℕ) → IsCut slots start front back → start + i ≡ j → key_at back i ≡ key_at slots j
key_at-back slots front back start i j cut e = ap (λ l. key_at l i) cut.back_is ∙ ap key_in (get_or-drop start slots i Empty) ∙ ap (key_at slots) e

passed_front : (slots front back : List Slot) (start key j : ℕ) → IsCut slots start front back → j < start → passes front key j → passes slots key j
passed_front slots front back start key j cut lt is = ap (λ o. stops o key) (sym (key_at-front slots front back start j cut lt)) ∙ is

passed_back : (slots front back : List Slot) (start key j : ℕ) → IsCut slots start front back → start ≤ j → j < length slots
    → passes_below back key (length back) → passes slots key j
passed_back slots front back start key j cut le lt behind = let e : start + (j - start) ≡ j = omega arith in
    let long = length_back slots front back start cut in
    ap (λ o. stops o key) (sym (key_at-back slots front back start (j - start) j cut e)) ∙ behind (j - start) (omega arith)

pub stops_back : (slots front back : List Slot) (start key i : ℕ) → IsCut slots start front back → i < length back → stops (key_at back i) key ≡ true
    → passes_below back key i → StopsAt slots start key (start + i)
stops_back slots front back start key i cut lt stop passed = record {
  within = let long = length_back slots front back start cut in omega arith;
  stops = ap (λ o. stops o key) (sym (key_at-back slots front back start i (start + i) cut refl)) ∙ stop;
  leads = leads;
}
  where
    leads : LeadsTo (key_at slots) (length slots) start key (start + i)
    leads j lj (inl b) = let low = b.0 in let high = b.1 in let e : start + (j - start) ≡ j = omega arith in
        ap (λ o. stops o key) (sym (key_at-back slots front back start (j - start) j cut e)) ∙ passed (j - start) (omega arith)
    leads j lj (inr (inl b)) = let low = b.1 in absurd (omega arith)
    leads j lj (inr (inr b)) = let low = b.0 in absurd (omega arith)

stops_front : (slots front back : List Slot) (start key i : ℕ) → IsCut slots start front back → passes_below back key (length back)
    → i < length front → stops (key_at front i) key ≡ true → passes_below front key i → StopsAt slots start key i
stops_front slots front back start key i cut behind lt stop passed = record {
  within = let w = cut.within in let l : i < start = low in omega arith;
  stops = ap (λ o. stops o key) (sym (key_at-front slots front back start i cut low)) ∙ stop;
  leads = leads;
}
  where
    low : i < start
    low = let e = length_front slots front back start cut in omega arith

    leads : LeadsTo (key_at slots) (length slots) start key i
    leads j lj (inl b) = let le = b.0 in let high = b.1 in let l : i < start = low in absurd (omega arith)
    leads j lj (inr (inl b)) = let before = b.0 in let l : i < start = low in passed_front slots front back start key j cut (omega arith) (passed j before)
    leads j lj (inr (inr b)) = passed_back slots front back start key j cut b.1 lj behind

pub stops_somewhere : (slots front back : List Slot) (start key : ℕ) → IsCut slots start front back → passes_below back key (length back)
    → (o : Option ℕ) → IfSome o (λ i. (i < length front) × (stops (key_at front i) key ≡ true)) → passes_below front key (unwrap_or o (length front))
    → IfSome o (λ place. StopsAt slots start key place)
stops_somewhere slots front back start key cut behind None is passed = is
stops_somewhere slots front back start key cut behind (Some i) is passed = stops_front slots front back start key i cut behind is.0 is.1 passed

pub stops_nowhere : (slots front back : List Slot) (start key : ℕ) → IsCut slots start front back → passes_below back key (length back)
    → (o : Option ℕ) → passes_below front key (unwrap_or o (length front)) → o ≡ None → (j : ℕ) → j < length slots → passes slots key j
stops_nowhere slots front back start key cut behind o passed none j lj = ⊎_elim
    (λ (lt : j < start). let e = length_front slots front back start cut in passed_front slots front back start key j cut lt (before j (omega arith)))
    (λ (le : start ≤ j). passed_back slots front back start key j cut le lj behind) (cases_lt j start)
  where
    before : passes_below front key (length front)
    before = subst (λ (o : Option ℕ). passes_below front key (unwrap_or o (length front))) none passed
