-- PROMISES from-c: TellsReply, Trims
-- The effect of a call on the handle of a map with one owner, in terms of the map that the handle
-- owns before and after. Only `MakesMap` gives a map to a handle that has none. For every other call
-- on such a handle the status says that the handle is empty.
use Rattle.std.specs.Prelude.{◌≡◌, ℕ, ◌/◌, ◌&&◌, not, nat_eq, nat_lt, Bool, true, false, length, Option, Some, None, Result, Ok, Err}
use Rattle.txn_words.specs.declared.answer.Answer.TheVariants as answers
use Rattle.txn_words.specs.declared.step.Step.TheVariants as steps
use Rattle.txn_words.specs.declared.refusal.Refusal.{Refusal}
use Rattle.txn_words.specs.declared.refusal.Refusal.TheVariants.{NoMemory}
use Rattle.txn_words.specs.Sizes.{Sizes, limits_of}
use Rattle.txn_words.specs.Map.{count_of}
use Rattle.txn_trace.specs.Now.{now}
use Rattle.txn_words.specs.declared.stop.Stop.{Stop}
use Rattle.boost_core.specs.Machine.{State, Happens, start}
use Rattle.boost_core.specs.Plain as plain
use Rattle.owned_map.specs.Effects.{IsStopped}
use Rattle.owned_map.specs.Trimmed.{IsNotTrimmed, IsTrimmed}
use Rattle.boostmap_c.specs.declared.held_map.HeldMap.{HeldMap}
use Rattle.boostmap_c.specs.Replies.{done, empty_handle, full, refused, status_of_result}
use Rattle.boostmap_c.specs.Stops.{status_of_reply, word_of_reply, status_of_number, word_of_number}

-- A caller begins a transaction, or is stopped.
abbrev pub Begins : ℕ → State → Result ℕ Stop → State → Type 0
Begins c old (Ok txn) new = Happens old (steps.Begin c) (answers.Began txn) new
Begins c old (Err stop) new = IsStopped old (steps.Begin c) stop new

-- A caller takes back its changes above a level, or is stopped.
abbrev pub Returns : ℕ → ℕ → State → Result ℕ Stop → State → Type 0
Returns c level old (Ok number) new =
    (number ≡ level) × plain.Returns old c level (answers.Returned level) new
Returns c level old (Err stop) new = IsStopped old (steps.Back c level) stop new

-- The history has more entries than the bound, and more than four for each key. If the bound is 0,
-- no history is too long.
abbrev pub is_long : ℕ → State → Bool
is_long bound state =
    not (nat_eq bound 0) && (nat_lt bound (length state.history)
    && nat_lt (count_of (now state.history)) (length state.history / 4))

-- The history is trimmed, or stays as it is for a reason.
abbrev pub Trims : State → Result Unit Refusal → State → Type 0
Trims old (Ok nothing) new = IsTrimmed old new
Trims old (Err refusal) new = (new ≡ old) × IsNotTrimmed old refusal

-- If the Boolean is true, the map trims its history once. If not, nothing is done.
abbrev pub TrimsIf : Bool → State → State → Type 0
TrimsIf false old new = new ≡ old
TrimsIf true old new = (outcome : Result Unit Refusal) × Trims old outcome new

-- A caller's transaction is committed, and its commit number is told. If the history is then too
-- long, the map trims it. Or the commit is stopped.
abbrev pub Commits : ℕ → ℕ → State → Result ℕ Stop → State → Type 0
Commits c bound old (Ok place) new =
    (ended : State) × Happens old (steps.Commit c) (answers.Committed place) ended
    × TrimsIf (is_long bound ended) ended new
Commits c bound old (Err stop) new = IsStopped old (steps.Commit c) stop new

-- A caller's transaction is aborted. If the history is then too long, the map trims it. Or the
-- abort is refused.
abbrev pub Aborts : ℕ → ℕ → State → Result Unit Refusal → State → Type 0
Aborts c bound old (Ok nothing) new =
    (ended : State) × plain.Aborts old c answers.Aborted ended
    × TrimsIf (is_long bound ended) ended new
Aborts c bound old (Err refusal) new = plain.Aborts old c (answers.Refused refusal) new

-- The map makes a call that returns a value or none. The status and the word report the result to
-- C. The bound is unchanged.
abbrev pub TellsReply : (State → Result (Option ℕ) Stop → State → Type 0) → Option HeldMap → ℕ → ℕ
    → ℕ → Option HeldMap → Type 0
TellsReply Calls (Some old) status before after (Some new) =
    (answer : Result (Option ℕ) Stop) × Calls old.map.core answer new.map.core
    × (new.bound ≡ old.bound)
    × (status ≡ status_of_reply answer) × (after ≡ word_of_reply before answer)
TellsReply Calls None status before after None = (status ≡ empty_handle) × (after ≡ before)
TellsReply Calls old status before after new = ⊥

-- The map makes a call that returns a number. The status and the word report the result to C. The
-- bound is unchanged. `Calls` is given the bound.
abbrev pub TellsNumber : (ℕ → State → Result ℕ Stop → State → Type 0) → Option HeldMap → ℕ → ℕ → ℕ
    → Option HeldMap → Type 0
TellsNumber Calls (Some old) status before after (Some new) =
    (answer : Result ℕ Stop) × Calls old.bound old.map.core answer new.map.core
    × (new.bound ≡ old.bound)
    × (status ≡ status_of_number answer) × (after ≡ word_of_number before answer)
TellsNumber Calls None status before after None = (status ≡ empty_handle) × (after ≡ before)
TellsNumber Calls old status before after new = ⊥

-- The map makes a call that returns no value. The status reports the result to C. The bound is
-- unchanged. `Calls` is given the bound.
abbrev pub TellsEnd : (ℕ → State → Result Unit Refusal → State → Type 0) → Option HeldMap → ℕ
    → Option HeldMap → Type 0
TellsEnd Calls (Some old) status (Some new) =
    (outcome : Result Unit Refusal) × Calls old.bound old.map.core outcome new.map.core
    × (new.bound ≡ old.bound) × (status ≡ status_of_result outcome)
TellsEnd Calls None status None = status ≡ empty_handle
TellsEnd Calls old status new = ⊥

-- The map is unchanged, except for the bound, which is this number.
abbrev pub SetsBound : ℕ → Option HeldMap → ℕ → Option HeldMap → Type 0
SetsBound bound (Some old) status (Some new) =
    (new.map ≡ old.map) × (new.bound ≡ bound) × (status ≡ done)
SetsBound bound None status None = status ≡ empty_handle
SetsBound bound old status new = ⊥

-- The word is this number of the map. The map is unchanged.
abbrev pub TellsOf : (State → ℕ) → Option HeldMap → ℕ → ℕ → ℕ → Option HeldMap → Type 0
TellsOf number (Some old) status before after (Some new) =
    (new ≡ old) × (status ≡ done) × (after ≡ number old.map.core)
TellsOf number None status before after None = (status ≡ empty_handle) × (after ≡ before)
TellsOf number old status before after new = ⊥

-- The number of keys of the map.
abbrev pub keys_in : State → ℕ
keys_in state = count_of (now state.history)

-- The number of entries of the history.
abbrev pub entries_in : State → ℕ
entries_in state = length state.history

-- The call makes a new map, which never trims by itself, unless the map's limits or memory are
-- refused.
abbrev pub MakesWithin : Result Sizes Refusal → ℕ → Option HeldMap → Type 0
MakesWithin (Ok limits) status (Some new) =
    (status ≡ done) × (new.map.core ≡ start limits) × (new.bound ≡ 0)
MakesWithin (Ok limits) status None = status ≡ refused NoMemory
MakesWithin (Err refusal) status (Some new) = ⊥
MakesWithin (Err refusal) status None = status ≡ refused refusal

-- A handle without a map gets one, unless the map is refused. A handle with a map keeps its map.
abbrev pub MakesMap : Option HeldMap → ℕ → ℕ → ℕ → ℕ → Option HeldMap → Type 0
MakesMap None callers stripes buckets status new =
    MakesWithin (limits_of callers stripes buckets) status new
MakesMap (Some old) callers stripes buckets status new = (status ≡ full) × (new ≡ Some old)

-- The handle no longer has a map.
abbrev pub Frees : Option HeldMap → ℕ → Option HeldMap → Type 0
Frees (Some old) status new = (status ≡ done) × (new ≡ None)
Frees None status new = (status ≡ empty_handle) × (new ≡ None)
