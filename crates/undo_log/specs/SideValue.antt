-- PROMISES inverses-newest-first: words_at, IsUndoable
-- The words of a side value at each level, as the jobs of its undo log determine them.
use Rattle.std.specs.Prelude.{ℕ, zero, suc, ◌≡◌, ◌≤◌, List, [], ◌∷◌, map, length}
use Rattle.undo_log.specs.UndoLog.{LogAt}

-- A side value as contracts see it. `levels` has the value's words at each level, level 0 first.
-- `changes` is the number of changes that can be taken back, and `kept` says how many of them each
-- level keeps, level 0 first. `room` and `save_room` are the numbers of changes and of savepoints
-- that can be made before more memory is needed.
pub record Leveled (S : Type 0) : Type 0 where
  pub value : S
  pub levels : List (List ℕ)
  pub changes : ℕ
  pub kept : List ℕ
  pub room : ℕ
  pub save_room : ℕ

-- The words that the value has if only its first `k` changes are kept. These are the words before
-- job `k`, counted from 0. If there is no such job, they are the current words (`now`).
abbrev pub words_at : {J : Type 0} → (J → List ℕ) → List ℕ → List J → ℕ → List ℕ
words_at before now [] k = now
words_at before now (job ∷ jobs) zero = before job
words_at before now (job ∷ jobs) (suc k) = words_at before now jobs k

-- The words at each level, level 0 first.
abbrev pub levels_of : {J : Type 0} → (J → List ℕ) → List ℕ → LogAt J → List (List ℕ)
levels_of before now log = map (words_at before now log.jobs) (0 ∷ log.kept)

-- The words after each job are the words before the next newer job, and the words after the newest
-- job are the current words.
abbrev pub AreConnected : {J : Type 0} → (J → List ℕ) → (J → List ℕ) → List ℕ → List J → Type 0
AreConnected before after now [] = Unit {0}
AreConnected before after now (job ∷ jobs) =
    (after job ≡ words_at before now jobs 0) × AreConnected before after now jobs

-- The numbers never fall, and lie between low and high.
abbrev pub IsRising : ℕ → List ℕ → ℕ → Type 0
IsRising low [] high = low ≤ high
IsRising low (k ∷ ks) high = (low ≤ k) × IsRising k ks high

-- The jobs can be run, newest first, from the current words back to the words of each level. A
-- later level keeps at least as many jobs as an earlier one.
pub record IsUndoable {J : Type 0} (before after : J → List ℕ) (now : List ℕ)
    (log : LogAt J) : Type 0 where
  pub chain : AreConnected before after now log.jobs
  pub nested : IsRising 0 log.kept (length log.jobs)
