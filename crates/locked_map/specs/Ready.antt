-- PROMISES callers-in-threads: refused_by
-- How a token refuses a call, what it may lack for one, and what a call does to its side value, which
-- the function `words` turns into words.
use Rattle.std.specs.Prelude.{◌≡◌, ◌≤◌, ◌⊎◌, if◌then◌else◌, Bool, true, false, length, Option, Some, None, ℕ, ◌<◌, List}
use Rattle.locked_map.specs.Vocabulary.{BadKey, Call, NoMemory, OutOfStep, Refusal, Stance, first_step, is_bad_key, option_or, refusal_in}
use Rattle.locked_map.specs.Vocabulary.{stance_after, End, IsSameSide, Leveled}
use Rattle.locked_map.specs.Tokens.{Token}
use Rattle.undo_log.specs.Sides.{IsSettled, HasLevel, IsBackAt}
use Rattle.txn_drive.specs.declared.call.Call.TheVariants as calls
use Rattle.txn_words.specs.declared.answer.Answer.TheVariants as answers
use Rattle.txn_drive.specs.declared.«end».End.TheVariants as ends

-- `BadKey` for a call for help with a bad key, and `None` for any other call. `half` says whether
-- the map takes only half keys.
abbrev pub refusal_of_help : Bool → Call → Option Refusal
refusal_of_help half (calls.Help key) = if is_bad_key half key then Some BadKey else None
refusal_of_help half call = None

-- The refusal with which a token refuses a call, if it does. If the token is broken or its entries
-- give it no stance, this is `OutOfStep`. Otherwise it is the refusal that this stance gives. If the
-- stance gives none, it is `BadKey` for help with a bad key.
abbrev pub refused_at : Bool → Bool → Option Stance → Call → Option Refusal
refused_at half true stance call = Some OutOfStep
refused_at half false None call = Some OutOfStep
refused_at half false (Some s) call =
    option_or (refusal_in half s (first_step 0 call)) (refusal_of_help half call)

abbrev pub refused_by : {S : Type 0} → Token S → Call → Option Refusal
refused_by k call = refused_at k.limits.half k.broken (stance_after k.seen) call

-- The token does not refuse the call, but is not ready for it. Either memory was refused for one
-- more right or one more level: then the token is unchanged. Or the side value does not have the
-- level to which the call returns: then the token breaks, and is otherwise unchanged.
abbrev pub Lacks : {S : Type 0} → Token S → Call → Refusal → Token S → Type 0
Lacks k (calls.Op op) refusal l = (refusal ≡ NoMemory) × (l ≡ k)
Lacks k calls.Save refusal l = (refusal ≡ NoMemory) × (l ≡ k)
Lacks k (calls.Back level) refusal l =
    (refusal ≡ OutOfStep) × (length k.side.levels ≤ level) × (l ≡ record k { broken = true })
Lacks k call refusal l = ⊥

-- The token was not made ready for the call. Either the token refuses the call and is unchanged, or
-- the token lacks what the call needs (`Lacks`).
abbrev pub IsUnready : {S : Type 0} → Token S → Call → Refusal → Token S → Type 0
IsUnready k call refusal l =
    ((refused_by k call ≡ Some refusal) × (l ≡ k))
    ⊎ ((refused_by k call ≡ None) × Lacks k call refusal l)

-- The reason why a change of the side value is refused: `OutOfStep` if the token is broken,
-- otherwise `NoMemory`.
abbrev pub refused_side : Bool → Refusal
refused_side true = OutOfStep
refused_side false = NoMemory

-- What the end of a call does to the side value.
abbrev pub MovesSide : {S : Type 0} → (S → List ℕ) → End → Leveled S → Leveled S → Type 0
MovesSide words (ends.Answered (answers.Began t)) a b = IsSettled words a b
MovesSide words (ends.Answered (answers.Committed p)) a b = IsSettled words a b
MovesSide words (ends.Answered (answers.Saved n)) a b = HasLevel words a b
MovesSide words (ends.Answered (answers.Returned n)) a b = IsBackAt words n a b
MovesSide words (ends.Answered answers.Aborted) a b = IsBackAt words 0 a b
MovesSide words (ends.Busy holder) a b = IsBackAt words 0 a b
MovesSide words outcome a b = IsSameSide a b

-- The side value can be changed as an end of a call requires. If the end makes a level, there is
-- room for it. If the end restores a level, this level exists.
abbrev pub CanFollow : {S : Type 0} → End → Leveled S → Type 0
CanFollow (ends.Answered (answers.Saved n)) side = 0 < side.save_room
CanFollow (ends.Answered (answers.Returned n)) side = n < length side.levels
CanFollow outcome side = Unit {0}

-- For each end that this call may have, the side value can be changed as the end requires
-- (`CanFollow`).
abbrev pub IsReadyFor : {S : Type 0} → Call → Leveled S → Type 0
IsReadyFor calls.Save side = 0 < side.save_room
IsReadyFor (calls.Back n) side = n < length side.levels
IsReadyFor call side = Unit {0}
