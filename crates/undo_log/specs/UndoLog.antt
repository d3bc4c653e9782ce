-- PROMISES inverses-newest-first: LogAt
-- An undo log as contracts see it, and the jobs above a level.
use Rattle.std.specs.Prelude.{ℕ, ◌∷◌, ◌-◌, nat_lt, List, length, slice_get, slice_index, Option, None, if◌then◌else◌}

-- An undo log as contracts see it. `jobs` has the jobs, oldest first. `kept` says how many jobs
-- there were at each savepoint, savepoint 1 first. `room` and `save_room` are the numbers of jobs
-- and of savepoints that can be added before more memory is needed.
pub record LogAt (J : Type 0) : Type 0 where
  pub jobs : List J
  pub kept : List ℕ
  pub room : ℕ
  pub save_room : ℕ

-- The number of jobs that a return to a level keeps. Level 0 is the beginning, which keeps none.
abbrev pub kept_at : List ℕ → ℕ → ℕ
kept_at kept level = slice_index (0 ∷ kept) level

-- The newest job, if there are more jobs than the level keeps.
abbrev pub newest_above : {J : Type 0} → LogAt J → ℕ → Option J
newest_above log level =
    if nat_lt (kept_at log.kept level) (length log.jobs)
    then slice_get log.jobs (length log.jobs - 1)
    else None
