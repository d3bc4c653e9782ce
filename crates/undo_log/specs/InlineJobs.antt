-- Jobs that are stored in places. Some of the places are in the log itself.
use Rattle.std.specs.Prelude.{ℕ, ◌≤◌, List, [], ◌∷◌, Option, None, Some}
use Rattle.smallvec.specs.SmallVec.{SmallVec, small_vec_len}

-- The jobs, oldest first, and how many more can be added before more memory is needed.
pub record Stored (J : Type 0) : Type 0 where
  pub jobs : List J
  pub room : ℕ

-- The jobs in the order of their places.
abbrev pub jobs_in : {J : Type 0} → List (Option J) → List J
jobs_in [] = []
jobs_in (None ∷ rest) = jobs_in rest
jobs_in (Some job ∷ rest) = job ∷ jobs_in rest

-- Each place holds a job.
abbrev pub AreThere : {J : Type 0} → List (Option J) → Type 0
AreThere [] = Unit {0}
AreThere (None ∷ rest) = ⊥
AreThere (Some job ∷ rest) = AreThere rest

-- Each place in use holds a job. The number of places in use is at most the capacity, and so is the
-- number of inline places.
pub record IsSound {J : Type 0} (inline : ℕ) (places : SmallVec (Option J)) : Type 0 where
  pub there : AreThere places.items
  pub fits : small_vec_len places ≤ places.capacity
  pub inline_fit : inline ≤ places.capacity
