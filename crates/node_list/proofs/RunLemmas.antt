-- Sums of runs of counts.
use Prim.Native.Nat.{zero, suc}
use Rattle.std.proofs.Common.{◌≡◌, ◌≢◌, ℕ, ◌+◌, ◌<◌, ◌≤◌, inl, inr, List, length, refl, ◌∙◌, ap, arith, get_or, set, get_or-set_other}
use Rattle.std.proofs.lemmas.Bool.{cases_lt}
use Rattle.std.proofs.lemmas.List.{get_or-set_same}
use Rattle.node_list.specs.Tally.{run_sum}

-- No count of a run is above the run's sum.
pub count_in_run : (counts : List ℕ) (from width place : ℕ) → from ≤ place → place < from + width → get_or counts place 0 ≤ run_sum counts from width
unfolding run_sum
count_in_run counts from zero place after before = absurd (omega (arith, after, before))
count_in_run counts from (suc more) place after before = elim (cases_lt place (from + more)) [
  | inl less ↦ omega (arith, count_in_run counts from more place after less)
  | inr last ↦
      let here : place ≡ from + more = omega (arith, last, before) in
      rw here (omega arith)
]

-- A run of zeros has the sum 0.
pub run_of_zeros : (counts : List ℕ) (from width : ℕ) → ((place : ℕ) → from ≤ place → place < from + width → get_or counts place 0 ≡ 0) → run_sum counts from width ≡ 0
unfolding run_sum
run_of_zeros counts from zero none = refl
run_of_zeros counts from (suc more) none =
    omega (arith, run_of_zeros counts from more (λ place after before. none place after (omega (arith, before))), none (from + more) (omega arith) (omega arith))

-- If a count outside a run changes, the run's sum stays the same.
pub run_elsewhere : (counts : List ℕ) (from width place value : ℕ) → ((other : ℕ) → from ≤ other → other < from + width → other ≢ place) → run_sum (set counts place value) from width ≡ run_sum counts from width
unfolding run_sum
run_elsewhere counts from zero place value apart = refl
run_elsewhere counts from (suc more) place value apart =
    let here = get_or-set_other counts place (from + more) value 0 (apart (from + more) (omega arith) (omega arith)) in
    let rest = run_elsewhere counts from more place value (λ other after before. apart other after (omega (arith, before))) in
    omega (arith, here, rest)

-- If a count in a run changes, the run's sum changes by the same amount.
pub run_changed : (counts : List ℕ) (from width place value : ℕ) → place < length counts → from ≤ place → place < from + width → run_sum (set counts place value) from width + get_or counts place 0 ≡ run_sum counts from width + value
unfolding run_sum
run_changed counts from zero place value within after before = absurd (omega (arith, after, before))
run_changed counts from (suc more) place value within after before = elim (cases_lt place (from + more)) [
  | inl less ↦
      let here = get_or-set_other counts place (from + more) value 0 (λ same. omega (arith, same, less)) in
      omega (arith, here, run_changed counts from more place value within after less)
  | inr last ↦
      let here : from + more ≡ place = omega (arith, last, before) in
      let set_there : get_or (set counts place value) (from + more) 0 ≡ value = ap (λ k. get_or (set counts place value) k 0) here ∙ get_or-set_same counts place value 0 within in
      let was_there : get_or counts (from + more) 0 ≡ get_or counts place 0 = ap (λ k. get_or counts k 0) here in
      let rest = run_elsewhere counts from more place value (λ other low high same. omega (arith, same, high, here)) in
      omega (arith, set_there, was_there, rest)
]
