-- PROMISES one-holder-for-each-stripe: Grants, Refuses, Releases
-- The effect of `lock` and of `release_all` on the list of the stripes' holders.
use Rattle.std.specs.Prelude.{◌≡◌, ◌≢◌, ℕ, ◌⊎◌, List, length, slice_index_or, Option, None, Some, Bool, false, ◌==◌, if◌then◌else◌}
use Rattle.key_locks.specs.declared.lock_answer.LockAnswer.{LockAnswer}
use Rattle.key_locks.specs.declared.lock_answer.LockAnswer.TheVariants.{Granted, Busy}

-- The caller that holds the stripe.
abbrev pub holder_of : List (Option ℕ) → ℕ → Option ℕ
holder_of holders stripe = slice_index_or holders stripe None

-- Whether this holder is the caller.
abbrev pub is_caller : ℕ → Option ℕ → Bool
is_caller caller None = false
is_caller caller (Some holder) = holder == caller

-- The stripe was free or held by the caller, and the caller holds it now. The holders of all other
-- stripes are unchanged.
pub record Grants (caller stripe : ℕ) (old new : List (Option ℕ)) : Type 0 where
  pub open_to_caller : (holder_of old stripe ≡ None) ⊎ (holder_of old stripe ≡ Some caller)
  pub each : (other : ℕ) → holder_of new other
      ≡ (if other == stripe then Some caller else holder_of old other)
  pub as_many : length new ≡ length old

-- Another caller, `holder`, holds the stripe, and nothing changes.
pub record Refuses (caller stripe holder : ℕ) (old new : List (Option ℕ)) : Type 0 where
  pub held : holder_of old stripe ≡ Some holder
  pub by_another : holder ≢ caller
  pub same : new ≡ old

-- The effect of `lock`. If the answer is `Granted`, the holders satisfy `Grants`. If it is `Busy`,
-- they satisfy `Refuses`.
abbrev pub Locks : ℕ → ℕ → List (Option ℕ) → LockAnswer → List (Option ℕ) → Type 0
Locks caller stripe old Granted new = Grants caller stripe old new
Locks caller stripe old (Busy holder) new = Refuses caller stripe holder old new

-- The holder of a stripe after the caller has released all its stripes.
abbrev pub without_caller : ℕ → Option ℕ → Option ℕ
without_caller caller holder = (if is_caller caller holder then None else holder)

-- The caller's stripes are free, and the holders of all other stripes are unchanged.
pub record Releases (caller : ℕ) (old new : List (Option ℕ)) : Type 0 where
  pub each : (stripe : ℕ) → holder_of new stripe ≡ without_caller caller (holder_of old stripe)
  pub as_many : length new ≡ length old
