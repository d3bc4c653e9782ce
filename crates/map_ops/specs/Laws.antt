-- PROMISES each-change-has-an-inverse: GoesAndReturns, TakesBackTwo
-- The situations that the laws of the table are about.
use Rattle.std.specs.Prelude.{◌≡◌, ℕ, Option, Some}
use Rattle.map_ops.specs.Vocabulary.{Op, ordered}
use Rattle.map_ops.specs.declared.job.MapJob.{MapJob}
use Rattle.map_ops.specs.TableAt.{TableAt, content, regular}
use Rattle.map_ops.specs.Changes.{Applies, TakesBack}

-- The list has the pairs of the content in split order: by split key, and by key if split keys are
-- equal.
abbrev pub IsInOrder : TableAt → Type 0
IsInOrder t = regular t ≡ ordered (content t)

-- `apply` did an operation, and its change was taken back right afterwards.
pub record GoesAndReturns (old new : TableAt) : Type 0 where
  pub between : TableAt
  pub op : Op
  pub reply : Option ℕ
  pub job : MapJob
  pub applies : Applies old between op reply (Some job)
  pub back : TakesBack between new job

-- The changes of two jobs were taken back, one after the other.
pub record TakesBackTwo (old new : TableAt) (first second : MapJob) : Type 0 where
  pub between : TableAt
  pub one : TakesBack old between first
  pub two : TakesBack between new second
