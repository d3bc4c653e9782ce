-- The phases of a drive that suit a caller's stance and the core.
use Rattle.std.specs.Prelude.{ℕ, ◌≡◌, ◌<◌, ◌≤◌, Bool, true, false, not, List, length, Option, Some, None, is_some}
use Rattle.locked_map.specs.Vocabulary.{Act, Acting, Busy, Call, Doubling, Drive, End, Entry, First, Fresh, HelpSuits, Last, Leaving}
use Rattle.locked_map.specs.Vocabulary.{NoMemory, Operation, Phase, Refusal, Refused, Stance, Seeking, Sizes, StaleWord, StampsUsedUp}
use Rattle.locked_map.specs.Vocabulary.{Standing, State, Work, caller_changes, end_last, first_step, lacks_in, own, stance_in, undone_in}
use Rattle.txn_words.specs.declared.stance.Phase.TheVariants as stances
use Rattle.txn_drive.specs.declared.call.Call.TheVariants as calls
use Rattle.txn_drive.specs.declared.«end».End.TheVariants as ends
use Rattle.txn_drive.specs.Drives.{end_first}
use Rattle.boost_core.specs.Refusals.{refusal_in}

-- The phase that a caller's stance has while a drive does this work of the call, or `None` if the
-- call has no such work.
abbrev pub work_phase : Call → Work → Option Standing
work_phase (calls.Op op) Operation = Some (stances.Waiting op)
work_phase (calls.Op op) (Busy x k) = Some stances.LeavingToEnd
work_phase (calls.Back n) (Leaving k) = Some (stances.LeavingTo n)
work_phase calls.Abort (Leaving k) = Some stances.LeavingToEnd
work_phase call work = None

abbrev pub is_help : Call → Bool
is_help (calls.Help key) = true
is_help call = false

-- True if a call may end with this refusal although the call's token has not refused the call.
abbrev pub may_refuse : Call → Refusal → Bool
may_refuse calls.Begin NoMemory = true
may_refuse (calls.Op op) NoMemory = true
may_refuse (calls.Op op) StampsUsedUp = true
may_refuse (calls.Op op) StaleWord = true
may_refuse calls.Save NoMemory = true
may_refuse (calls.Back n) NoMemory = true
may_refuse (calls.Help key) NoMemory = true
may_refuse (calls.Help key) StampsUsedUp = true
may_refuse call refusal = false

-- True if this end is not allowed for the call.
abbrev pub is_odd : Call → End → Bool
is_odd call (ends.Refused refusal) = not (may_refuse call refusal)
is_odd call outcome = false

-- The stance fits the drive. If the first step of the call has not been answered, there is a value of
-- `half` for which the stance does not refuse this step. While the drive works, the stance has the
-- phase of the work.
abbrev pub SuitsStance : Stance → Call → Phase → Type 0
SuitsStance s call Fresh = (half : Bool) × (refusal_in half s (first_step 0 call) ≡ None)
SuitsStance s call (Seeking work again) = work_phase call work ≡ Some s.phase
SuitsStance s call (Acting work again) = work_phase call work ≡ Some s.phase
SuitsStance s call phase = Unit {0}

-- How many changes a drive has taken back.
abbrev pub undone_of : Phase → ℕ
undone_of (Seeking work again) = undone_in work
undone_of (Acting work again) = undone_in work
undone_of phase = 0

-- If the drive is in the phase that doubles the table, it has noted this size.
abbrev pub IsSized : ℕ → Phase → Type 0
IsSized size (Doubling seen) = seen ≡ size
IsSized size phase = Unit {0}

-- In the core, the stance, cursor and helper of a drive's caller fit the drive's phase.
abbrev pub Suits : State → Stance → ℕ → Call → Phase → Type 0
Suits m s c call Fresh =
    (refusal_in m.limits.half s (first_step c call) ≡ None) × (is_help call ≡ false)
Suits m s c call (Seeking work again) = work_phase call work ≡ Some s.phase
Suits m s c call (Acting work again) =
    (work_phase call work ≡ Some s.phase)
    × (lacks_in s (is_some (caller_changes m.cursors c)) (Act c) ≡ false)
Suits m s c call (First answer) = is_odd call (end_first call answer) ≡ false
Suits m s c call (Last work answer) = is_odd call (end_last call work answer) ≡ false
Suits m s c call (Refused refusal) = is_odd call (ends.Refused refusal) ≡ false
Suits m s c call phase = (is_help call ≡ true) × HelpSuits m c phase

-- The core has these limits. The seen entries are exactly the caller's entries in the core's
-- history. The caller's stance, cursor and helper fit the drive's phase.
pub record IsInStep (m : State) (limits : Sizes) (c : ℕ) (seen : List Entry) (d : Drive) : Type 0
  where
    pub same_limits : m.limits ≡ limits
    pub within : c < limits.callers
    pub same : own c m.history ≡ seen
    pub mine : d.caller ≡ c
    pub suits : Suits m (stance_in m.history c) c d.call d.phase
    pub few : undone_of d.phase ≤ length seen
