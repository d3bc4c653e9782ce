-- The jobs of a log and the places that hold them.
use Rattle.std.proofs.Common.{◌≡◌, ℕ, zero, suc, ◌-◌, ◌<◌, List, [], ◌∷◌, ◌++◌, length, slice_get, Option, Some, None, IsSome, option_to_list, refl, ap, sym, subst, ◌∙◌, arith}
use Rattle.std.specs.Option.{option_map}
use Rattle.std.proofs.lemmas.List.{length_push}
use Rattle.std.proofs.lemmas.Option.{slice_get_within}
use Rattle.undo_log.specs.InlineJobs.{AreThere, jobs_in}

module _ {J : Type 0} where
  -- If each place holds a job, there are as many jobs as places.
  pub length_jobs_in : (places : List (Option J)) → AreThere places → length (jobs_in places) ≡ length places
  length_jobs_in [] there = refl
  length_jobs_in (None ∷ rest) there = absurd there
  length_jobs_in (Some job ∷ rest) there = ap suc (length_jobs_in rest there)

  -- If a place with a job is added at the end, this job becomes the newest job.
  pub jobs_in-push : (places : List (Option J)) (job : J) → jobs_in (places ++ Some job ∷ []) ≡ jobs_in places ++ job ∷ []
  jobs_in-push [] job = refl
  jobs_in-push (None ∷ rest) job = jobs_in-push rest job
  jobs_in-push (Some first ∷ rest) job = ap (λ jobs. first ∷ jobs) (jobs_in-push rest job)

  -- If every place holds a job and one more place with a job is added, every place still holds a
  -- job.
  pub AreThere-push : (places : List (Option J)) (job : J) → AreThere places → AreThere (places ++ Some job ∷ [])
  AreThere-push [] job there = tt
  AreThere-push (None ∷ rest) job there = absurd there
  AreThere-push (Some first ∷ rest) job there = AreThere-push rest job there

  AreThere-rest : (rest : List (Option J)) (job : J) → AreThere (rest ++ Some job ∷ []) → AreThere rest
  AreThere-rest [] job there = tt
  AreThere-rest (None ∷ rest) job there = absurd there
  AreThere-rest (Some first ∷ rest) job there = AreThere-rest rest job there

  none_newest : (rest : List (Option J)) → AreThere (rest ++ None ∷ []) → ⊥
  none_newest [] there = there
  none_newest (None ∷ rest) there = there
  none_newest (Some first ∷ rest) there = none_newest rest there

  slice_get-push : (jobs : List J) (job : J) → slice_get (jobs ++ job ∷ []) (length jobs) ≡ Some job
  slice_get-push [] job = refl
  slice_get-push (first ∷ rest) job = slice_get-push rest job

  last_pushed : (jobs : List J) (job : J) → slice_get (jobs ++ job ∷ []) (length (jobs ++ job ∷ []) - 1) ≡ Some job
  last_pushed jobs job =
      let same : length (jobs ++ job ∷ []) - 1 ≡ length jobs = omega (arith, length_push jobs job) in
      ap (slice_get (jobs ++ job ∷ [])) same ∙ slice_get-push jobs job

  -- The last place was removed. It held the newest job, which is `job`. The places `rest` remain.
  pub record IsPopped (places rest : List (Option J)) (job : Option J) : Type 0 where
    pub some : IsSome job
    pub one : length (option_to_list job) ≡ 1
    pub last : job ≡ slice_get (jobs_in places) (length (jobs_in places) - 1)
    pub jobs : jobs_in places ≡ jobs_in rest ++ option_to_list job
    pub there : AreThere rest

  -- If every place holds a job and the last place is removed, `IsPopped` holds.
  pub popped : (places rest : List (Option J)) (job : Option J) → places ≡ rest ++ job ∷ [] → AreThere places → IsPopped places rest job
  popped places rest None is there = absurd (none_newest rest (subst AreThere is there))
  popped places rest (Some job) is there =
      let jobs : jobs_in places ≡ jobs_in rest ++ job ∷ [] = ap jobs_in is ∙ jobs_in-push rest job in
      record {
        some = refl;
        one = refl;
        last = sym (ap (λ js. slice_get js (length js - 1)) jobs ∙ last_pushed (jobs_in rest) job);
        jobs = jobs;
        there = AreThere-rest rest job (subst AreThere is there);
      }

  slice_get-jobs_in : (places : List (Option J)) (i : ℕ) → AreThere places → option_map Some (slice_get (jobs_in places) i) ≡ slice_get places i
  slice_get-jobs_in [] i there = refl
  slice_get-jobs_in (None ∷ rest) i there = absurd there
  slice_get-jobs_in (Some first ∷ rest) zero there = refl
  slice_get-jobs_in (Some first ∷ rest) (suc i) there = slice_get-jobs_in rest i there

  found_inside : (found job : Option J) → option_map Some found ≡ Some job → (job ≡ found) × IsSome job
  found_inside None job same = let none : ⊥ = cc in absurd none
  found_inside (Some inside) job same = let is : job ≡ Some inside = cc in (is, subst IsSome (sym is) refl)

  -- `job` is the job in the last place, and it is the newest job.
  pub record IsNewest (places : List (Option J)) (job : Option J) : Type 0 where
    pub some : IsSome job
    pub last : job ≡ slice_get (jobs_in places) (length (jobs_in places) - 1)
    pub any : 0 < length (jobs_in places)

  -- If every place holds a job, the job in the last place is the newest: `IsNewest` holds.
  pub newest : (places : List (Option J)) (job : Option J) → AreThere places → slice_get places (length places - 1) ≡ Some job → IsNewest places job
  newest places job there is =
      let many : length (jobs_in places) ≡ length places = length_jobs_in places there in
      let same : option_map Some (slice_get (jobs_in places) (length (jobs_in places) - 1)) ≡ Some job =
      slice_get-jobs_in places (length (jobs_in places) - 1) there ∙ ap (λ n. slice_get places (n - 1)) many ∙ is in
      let found : (job ≡ slice_get (jobs_in places) (length (jobs_in places) - 1)) × IsSome job = found_inside (slice_get (jobs_in places) (length (jobs_in places) - 1)) job same in
      record {
        some = found.1;
        last = found.0;
        any = omega (arith, many, slice_get_within places (length places - 1) job is);
      }
