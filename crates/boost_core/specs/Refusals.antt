-- PROMISES each-step-is-a-move-of-the-machine: refusal_of
-- The refusals of each step, in the order in which they are tested.
pub use Rattle.txn_words.specs.Stances.{is_closed, is_waiting, is_leaving, has_job, has_target, unready_tests, tests_in, first_of, refusal_in}
use Rattle.std.specs.Prelude.{ℕ, ◌^◌, ◌-◌, Bool, true, false, not, ◌==◌, ◌&&◌, ◌||◌, nat_le, IsTrue, is_some, List, [], ◌∷◌, ◌++◌, Option, Some, None}
use Rattle.boost_core.specs.Vocabulary.{may_change, Op, Step, Begin, Ask, Seek, Act, Save, Back, Commit, Abort, Sweep, InitSeek, InitLink, InitStore, Double, Refusal, NoSuchCaller, Unplaced, NoSuchBucket, ParentMissing, NoSuchHelper, HelperOutOfOrder, NoMemory, StampsUsedUp, Stance, parent_of, LacksSegment}
use Rattle.boost_core.specs.State.{State, Owner, Caller, Helper, Help, Sought, Dummy, stance_in, caller_changes, help_in, is_set, bucket_of}

-- The owner of a step: its caller or its helper. `Sweep` and `Double` have no owner.
abbrev pub owner_of : Step → Option Owner
owner_of (Begin c) = Some (Caller c)
owner_of (Ask c op) = Some (Caller c)
owner_of (Seek c) = Some (Caller c)
owner_of (Act c) = Some (Caller c)
owner_of (Save c) = Some (Caller c)
owner_of (Back c n) = Some (Caller c)
owner_of (Commit c) = Some (Caller c)
owner_of (Abort c) = Some (Caller c)
owner_of Sweep = None
owner_of (InitSeek h b) = Some (Helper h)
owner_of (InitLink h) = Some (Helper h)
owner_of (InitStore h) = Some (Helper h)
owner_of (Double n) = None

-- Whether a step needs a cursor that its caller does not have. The Boolean says whether the caller
-- has a cursor.
abbrev pub lacks_in : Stance → Bool → Step → Bool
lacks_in stance there (Act c) = has_target stance && not there
lacks_in stance there step = false

abbrev pub lacks_cursor : State → Step → Bool
lacks_cursor state (Act c) =
    lacks_in (stance_in state.history c) (is_some (caller_changes state.cursors c)) (Act c)
lacks_cursor state step = false

abbrev pub has_cursor : Help → Bool
has_cursor (Sought bucket noted) = true
has_cursor help = false

abbrev pub holds_dummy : Help → Bool
holds_dummy (Dummy bucket) = true
holds_dummy help = false

-- The tests of a step that depend on the helper and on the buckets, in order, each with its
-- refusal. A bucket that is stored already needs no parent.
abbrev pub tests_at : State → Help → Step → List (Bool × Refusal)
tests_at state help (InitSeek h b) =
    (nat_le state.size b, NoSuchBucket)
    ∷ (not (is_set state.stored b) && not (is_set state.stored (parent_of b)), ParentMissing) ∷ []
tests_at state help (InitLink h) = (not (has_cursor help), HelperOutOfOrder) ∷ []
tests_at state help (InitStore h) = (not (holds_dummy help), HelperOutOfOrder) ∷ []
tests_at state help step = []

-- All tests of a step, in order. The first tests whether there is a caller or helper with the
-- step's number. The others test the caller's stance and cursor, or the helper and the buckets.
abbrev pub tests_of : State → Option Owner → Step → List (Bool × Refusal)
tests_of state None step = []
tests_of state (Some (Caller c)) step =
    (nat_le state.limits.callers c, NoSuchCaller)
    ∷ tests_in state.limits.half (stance_in state.history c) step
    ++ (lacks_cursor state step, Unplaced) ∷ []
tests_of state (Some (Helper h)) step =
    (nat_le state.limits.callers h, NoSuchHelper) ∷ tests_at state (help_in state.helpers h) step

abbrev pub refusal_of : State → Step → Option Refusal
refusal_of state step = first_of (tests_of state (owner_of step) step)

-- Whether a stamp is left. The last stamp that is ever given is 2^64 - 2.
abbrev pub has_stamp : State → Bool
has_stamp state = not (state.stamp == 2 ^ 64 - 2)

abbrev pub has_stamp_for : State → Op → Bool
has_stamp_for state op = not (may_change op) || has_stamp state

-- Whether the dummy that a helper sought is not linked yet.
abbrev pub lacks_dummy : State → ℕ → Bool
lacks_dummy state h = not (is_set state.linked (bucket_of state h))

-- Whether a step that no test refuses may be refused for lack of memory or of stamps. Only a step
-- that reserves memory can lack it.
abbrev pub MayLack : State → Step → Refusal → Type 0
MayLack state (Begin c) NoMemory = Unit {0}
MayLack state (Ask c op) NoMemory = Unit {0}
MayLack state (Ask c op) StampsUsedUp = IsTrue (not (has_stamp_for state op))
MayLack state (Save c) NoMemory = Unit {0}
MayLack state (Back c n) NoMemory = Unit {0}
MayLack state (InitLink h) NoMemory = IsTrue (lacks_dummy state h && has_stamp state)
MayLack state (InitLink h) StampsUsedUp = IsTrue (lacks_dummy state h && not (has_stamp state))
MayLack state (InitStore h) NoMemory =
    LacksSegment state.stored (bucket_of state h)
MayLack state step refusal = ⊥
