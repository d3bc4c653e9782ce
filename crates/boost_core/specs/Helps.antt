-- The phases of a call for help that suit the state of the core. Steps of others do not make a
-- phase unsuitable.
use Rattle.std.specs.Prelude.{◌≡◌, ◌<◌, ℕ, true}
use Rattle.boost_core.specs.Vocabulary.{IsAncestor, Refusal, NoMemory, StampsUsedUp}
use Rattle.split_key.specs.Split.{parent_of}
use Rattle.txn_drive.specs.declared.phase.Phase.{Phase}
use Rattle.txn_drive.specs.declared.phase.Phase.TheVariants.{Doubling, Initialising, Linking, Storing, Helped, Refused}
use Rattle.txn_drive.specs.declared.way.Way.{Way}
use Rattle.boost_core.specs.State.{State, help_in, is_set, bucket_of}
use Rattle.boost_core.specs.Refusals.{has_cursor, holds_dummy}

-- `way.bucket` is the target (`way.target`) or one of the target's ancestors. Both are below the
-- table's size, and the parent of `way.bucket` is stored.
pub record IsOnWay (m : State) (way : Way) : Type 0 where
  pub ancestor : IsAncestor way.bucket way.target
  pub target : way.target < m.size
  pub bucket : way.bucket < m.size
  pub parent : is_set m.stored (parent_of way.bucket) ≡ true

-- The refusal is for a lack of memory or of stamps. After its first step, a call for help is
-- refused only for such a lack.
abbrev pub IsLack : Refusal → Type 0
IsLack NoMemory = Unit {0}
IsLack StampsUsedUp = Unit {0}
IsLack refusal = ⊥

-- The phase of the call for help by the helper `c` suits the state: the stored buckets and the
-- helper's cursor or dummy are as the phase needs them.
abbrev pub HelpSuits : State → ℕ → Phase → Type 0
HelpSuits m c (Doubling seen) = Unit {0}
HelpSuits m c (Initialising way again) = IsOnWay m way
HelpSuits m c (Linking way again) =
    IsOnWay m way × (has_cursor (help_in m.helpers c) ≡ true)
    × (bucket_of m c ≡ way.bucket)
HelpSuits m c (Storing way) =
    IsOnWay m way × (holds_dummy (help_in m.helpers c) ≡ true)
    × (bucket_of m c ≡ way.bucket)
HelpSuits m c Helped = Unit {0}
HelpSuits m c (Refused refusal) = IsLack refusal
HelpSuits m c phase = ⊥
