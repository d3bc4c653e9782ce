-- A map whose values at the keys of a log come from another map.
use Rattle.std.proofs.Common.{[], ◌≡◌, ℕ, ◌==◌, Bool, true, false, cond, List, ◌∷◌, refl, ap, sym, ◌∙◌, Option}
use Rattle.std.specs.List.{fold, list_any}
use Rattle.std.proofs.lemmas.Bool.{or_parts, or_cases, cases_Bool, eqb-true, false≢true, eq-eqb}
use mathlib.Core.Logic.{inl, inr}
use Rattle.txn_words.specs.Map.{Map, get, set_at}
use Rattle.txn_words.proofs.Maps.{get-set_at}
use Rattle.txn_trace.proofs.Undoing.{IsLogged}
use Rattle.txn_trace.proofs.Bounds.{first_map}

-- The map that has the values of `current` at the keys of the log, and the values of `base` at all
-- other keys.
abbrev pub settled : Map → Map → List (ℕ × Option ℕ) → Map
settled base current jobs = fold (λ m job. set_at m job.0 (get current job.0)) base jobs

pub settled_out : (current : Map) (k : ℕ) (jobs : List (ℕ × Option ℕ)) (base : Map) → list_any (λ job. k == job.0) jobs ≡ false → get (settled base current jobs) k ≡ get base k
settled_out current k [] base out = refl
settled_out current k (job ∷ jobs) base out =
    let parts = or_parts (k == job.0) _ out in
    settled_out current k jobs (set_at base job.0 (get current job.0)) parts.1 ∙ get-set_at base job.0 (get current job.0) k ∙ ap (λ b. cond b (get current job.0) (get base k)) parts.0

pub settled_in : (current : Map) (k : ℕ) (jobs : List (ℕ × Option ℕ)) (base : Map) → list_any (λ job. k == job.0) jobs ≡ true → get (settled base current jobs) k ≡ get current k
settled_in current k [] base there = absurd (false≢true there)
settled_in current k (job ∷ jobs) base there = elim (cases_Bool (list_any (λ (j : ℕ × Option ℕ). k == j.0) jobs)) [
  | inl later ↦ settled_in current k jobs (set_at base job.0 (get current job.0)) later
  | inr not_later ↦
      let here : (k == job.0) ≡ true = elim (or_cases (k == job.0) _ there) [ inl h ↦ h | inr h ↦ absurd (false≢true (sym not_later ∙ h)) ] in
      settled_out current k jobs (set_at base job.0 (get current job.0)) not_later ∙ get-set_at base job.0 (get current job.0) k ∙ ap (λ b. cond b (get current job.0) (get base k)) here
      ∙ ap (get current) (sym (eqb-true k job.0 here))
]

-- If no change in the log names a key, the key has the same value in a run's first and last maps.
-- If a change names the key, the key passes the test.
pub same_as_first : (keys : ℕ → Bool) (k : ℕ) (jobs : List (ℕ × Option ℕ)) (last : Map) (ms : List Map) → IsLogged keys jobs last ms → list_any (λ job. k == job.0) jobs ≡ false → get last k ≡ get (first_map last ms) k
same_as_first keys k [] last [] is out = refl
same_as_first keys k [] last (m ∷ ms) is out = absurd is
same_as_first keys k (job ∷ jobs) last [] is out = absurd is
same_as_first keys k (job ∷ jobs) last (m ∷ ms) is out =
    let parts = or_parts (k == job.0) _ out in
    sym (is.2 k (λ same. false≢true (sym parts.0 ∙ eq-eqb k job.0 same))) ∙ same_as_first keys k jobs m ms is.3 parts.1

pub named_passes : (keys : ℕ → Bool) (k : ℕ) (jobs : List (ℕ × Option ℕ)) (last : Map) (ms : List Map) → IsLogged keys jobs last ms → list_any (λ job. k == job.0) jobs ≡ true → keys k ≡ true
named_passes keys k [] last ms is there = absurd (false≢true there)
named_passes keys k (job ∷ jobs) last [] is there = absurd is
named_passes keys k (job ∷ jobs) last (m ∷ ms) is there = elim (or_cases (k == job.0) _ there) [
  | inl here ↦ ap keys (eqb-true k job.0 here) ∙ is.0
  | inr later ↦ named_passes keys k jobs m ms is.3 later
]
