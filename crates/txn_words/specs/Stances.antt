-- Which steps a caller's stance refuses, and with which refusal.
use Rattle.std.specs.Prelude.{Bool, true, false, not, ◌||◌, nat_lt, nat_le, slice_index, length, List, [], ◌∷◌, ◌++◌, Option, Some, None, if◌then◌else◌}
use Rattle.txn_words.specs.declared.entry.Entry.{Entry}
use Rattle.txn_words.specs.declared.entry.Entry.TheVariants.{Saved}
use Rattle.txn_words.specs.declared.step.Step.{Step}
use Rattle.txn_words.specs.declared.step.Step.TheVariants.{Begin, Ask, Seek, Act, Save, Back, Commit, Abort}
use Rattle.txn_words.specs.declared.refusal.Refusal.{Refusal}
use Rattle.txn_words.specs.declared.refusal.Refusal.TheVariants.{BadKey, NotOpen, AlreadyOpen, OperationUnfinished, Leaving, NothingToSeek, NoSuchLevel}
use Rattle.txn_words.specs.Map.{key_of}
use Rattle.txn_words.specs.Sizes.{is_bad_key}
use Rattle.txn_words.specs.declared.stance.Phase.{Phase}
use Rattle.txn_words.specs.declared.stance.Phase.TheVariants.{Closed, Waiting, LeavingTo, LeavingToEnd}
use Rattle.txn_words.specs.Shape.{Stance}

abbrev pub is_closed : Phase → Bool
is_closed Closed = true
is_closed _ = false

abbrev pub is_waiting : Phase → Bool
is_waiting (Waiting op) = true
is_waiting _ = false

abbrev pub is_leaving : Phase → Bool
is_leaving (LeavingTo n) = true
is_leaving LeavingToEnd = true
is_leaving _ = false

-- True if the caller is taking changes back and has at least one more to take back.
abbrev pub has_job : Stance → Bool
has_job stance = elim stance.phase [
  | LeavingTo n ↦ nat_lt (slice_index stance.kept n) stance.standing
  | LeavingToEnd ↦ nat_lt 0 stance.standing
  | _ ↦ false
]

-- Whether there is something to seek: an operation that waits, or a change to take back.
abbrev pub has_target : Stance → Bool
has_target stance = is_waiting stance.phase || has_job stance

-- The tests that refuse a step if the caller has no open transaction, is taking changes back, or
-- has an unfinished operation.
abbrev pub unready_tests : Phase → List (Bool × Refusal)
unready_tests phase =
    (is_closed phase, NotOpen) ∷ (is_leaving phase, Leaving)
    ∷ (is_waiting phase, OperationUnfinished) ∷ []

-- The tests of this step, in order, each with a refusal. The stance refuses the step with the refusal
-- of the first test that holds. The first argument says whether only half keys are allowed.
abbrev pub tests_in : Bool → Stance → Step → List (Bool × Refusal)
tests_in half stance (Begin c) =
    (is_leaving stance.phase, Leaving) ∷ (not (is_closed stance.phase), AlreadyOpen) ∷ []
tests_in half stance (Ask c op) =
    unready_tests stance.phase ++ (is_bad_key half (key_of op), BadKey) ∷ []
tests_in half stance (Seek c) =
    (is_closed stance.phase, NotOpen) ∷ (not (has_target stance), NothingToSeek) ∷ []
tests_in half stance (Act c) =
    (is_closed stance.phase, NotOpen)
    ∷ (not (is_leaving stance.phase || is_waiting stance.phase), NothingToSeek) ∷ []
tests_in half stance (Save c) = unready_tests stance.phase
tests_in half stance (Back c n) =
    unready_tests stance.phase ++ (nat_le (length stance.kept) n, NoSuchLevel) ∷ []
tests_in half stance (Commit c) = unready_tests stance.phase
tests_in half stance (Abort c) =
    (is_closed stance.phase, NotOpen) ∷ (is_leaving stance.phase, Leaving) ∷ []
tests_in half stance step = []

-- The refusal that comes with the first test that holds, or None if no test holds.
abbrev pub first_of : List (Bool × Refusal) → Option Refusal
first_of [] = None
first_of (test ∷ tests) = if test.0 then Some test.1 else first_of tests

-- The refusal with which a caller's stance refuses a step, or None if none of the step's tests holds.
abbrev pub refusal_in : Bool → Stance → Step → Option Refusal
refusal_in half stance step = first_of (tests_in half stance step)

-- Whether an entry is a Saved. Such an entry takes memory in the stance.
abbrev pub is_saved : Entry → Bool
is_saved (Saved c) = true
is_saved _ = false
