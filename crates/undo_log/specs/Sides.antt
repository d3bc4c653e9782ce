-- How a transaction's calls change a side value. `words` gives the words of a value.
use Rattle.std.specs.Prelude.{ℕ, ◌≡◌, ◌+◌, List, [], ◌∷◌, ◌++◌, take, slice_get, Some}
use Rattle.undo_log.specs.SideValue.{Leveled}

-- The value, its levels and the changes that can be taken back are unchanged.
pub record IsSameSide {S : Type 0} (a b : Leveled S) : Type 0 where
  pub value : b.value ≡ a.value
  pub levels : b.levels ≡ a.levels
  pub changes : b.changes ≡ a.changes
  pub kept : b.kept ≡ a.kept

-- The value is unchanged, the only level is level 0 with the value's words, and no change can be
-- taken back.
pub record IsSettled {S : Type 0} (words : S → List ℕ) (a b : Leveled S) : Type 0 where
  pub value : b.value ≡ a.value
  pub levels : b.levels ≡ words a.value ∷ []
  pub changes : b.changes ≡ 0
  pub kept : b.kept ≡ 0 ∷ []

-- The value is unchanged, and there is one more level, which has the value's words and keeps all
-- changes.
pub record HasLevel {S : Type 0} (words : S → List ℕ) (a b : Leveled S) : Type 0 where
  pub value : b.value ≡ a.value
  pub levels : b.levels ≡ a.levels ++ words a.value ∷ []
  pub changes : b.changes ≡ a.changes
  pub kept : b.kept ≡ a.kept ++ a.changes ∷ []

-- The value has the words of this level again. The changes that the level keeps can still be taken
-- back, and there is no level above it.
pub record IsBackAt {S : Type 0} (words : S → List ℕ) (level : ℕ) (a b : Leveled S) : Type 0 where
  pub value : slice_get a.levels level ≡ Some (words b.value)
  pub levels : b.levels ≡ take (level + 1) a.levels
  pub changes : slice_get a.kept level ≡ Some b.changes
  pub kept : b.kept ≡ take (level + 1) a.kept
