-- The number of entries that callers may still append without a new reservation.
use Rattle.std.specs.Prelude.{ℕ, ◌+◌, Bool, true, false, Option, Some, None, List}
use Rattle.std.specs.List.{sum_by, range_with_len}
use Rattle.txn_words.specs.declared.op.Op.{Op}
use Rattle.txn_words.specs.declared.op.Op.TheVariants.{Put, Take, Get, PutIf}
use Rattle.txn_words.specs.declared.entry.Entry.{Entry}
use Rattle.txn_words.specs.declared.step.Step.{Step}
use Rattle.txn_words.specs.declared.step.Step.TheVariants.{Begin, Ask, Save, Back}
use Rattle.txn_words.specs.declared.stance.Phase.{Phase}
use Rattle.txn_words.specs.declared.stance.Phase.TheVariants.{Closed, Opened, Waiting, LeavingTo, LeavingToEnd}
use Rattle.txn_words.specs.Shape.{Stance, stance_after, own}

-- True if the operation is a change on some map. This holds for every operation but a `Get`.
abbrev pub may_change : Op → Bool
may_change (Put k v) = true
may_change (Take k) = true
may_change (Get k) = false
may_change (PutIf k expected v) = true

-- The number of entries that a waiting operation may still add: one for its reply, and one for its
-- undoing if it may change the map.
abbrev pub owed_for : Op → ℕ
owed_for (Put k v) = 2
owed_for (Take k) = 2
owed_for (Get k) = 1
owed_for (PutIf k expected v) = 2

-- The number of entries that a caller with this many standing changes may still append in this
-- phase without a new reservation.
abbrev pub owed_in : ℕ → Phase → ℕ
owed_in s Closed = 0
owed_in s Opened = 2 + s
owed_in s (Waiting op) = 2 + s + owed_for op
owed_in s (LeavingTo n) = 3 + s
owed_in s LeavingToEnd = 1 + s

-- The number of entries that a caller with this stance may still append without a new reservation, or
-- 0 if there is no stance.
abbrev pub owed_by : Option Stance → ℕ
owed_by None = 0
owed_by (Some s) = owed_in s.standing s.phase

-- The number of entries that all callers together may still append to the history `h` without a new
-- reservation. Callers are numbered from 0.
abbrev pub owed : ℕ → List Entry → ℕ
owed callers h = sum_by (λ c. owed_by (stance_after (own c h))) (range_with_len 0 callers)

-- Before a step does anything else, it reserves room in the history for this number of entries: its
-- own entry, and the further entries that its caller may append because of the step. A step that
-- reserves no room adds only entries for which room is reserved already.
abbrev pub reserved : Step → ℕ
reserved (Begin c) = 3
reserved (Ask c op) = 1 + owed_for op
reserved (Save c) = 1
reserved (Back c n) = 2
reserved _ = 0
