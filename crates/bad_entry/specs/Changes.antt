-- PROMISES what-leads-to-a-bad-entry: last_change, fate_of
-- Changes of a key, and their fates.
use Rattle.std.specs.Prelude.{◌≡◌, ℕ, ◌+◌, ◌-◌, ◌==◌, Bool, false, ◌&&◌, Option, Some, None}
use Rattle.std.specs.Prelude.{List, [], ◌∷◌, length, drop, option_map, if◌then◌else◌}
use Rattle.txn_words.specs.declared.op.Op.{Op}
use Rattle.txn_words.specs.declared.entry.Entry.{Entry}
use Rattle.txn_words.specs.declared.entry.Entry.TheVariants as entries
use Rattle.txn_words.specs.Kinds.{caller_of}
use Rattle.txn_words.specs.Map.{key_of}
use Rattle.txn_words.specs.Shape.{changes}
use Rattle.bad_entry.specs.declared.change.Change.{Change}
use Rattle.bad_entry.specs.declared.change.Fate.{Fate}
use Rattle.bad_entry.specs.declared.change.Fate.TheVariants.{Open, Committed, Undone}
use Rattle.bad_entry.specs.Desks.{txn_in, waiting_in}
use Rattle.bad_entry.specs.Places.{last_answer}

-- Whether a reply to the waiting operation makes this operation a change of the key. False if no
-- operation waits.
abbrev pub changes_key : ℕ → Option Op → Option ℕ → Bool
changes_key k None r = false
changes_key k (Some op) r = (key_of op == k) && changes op r

-- The change of the key that the entry makes, if it makes one. The entry follows `g` and has this
-- index.
abbrev pub change_at : ℕ → ℕ → List Entry → Entry → Option Change
change_at k i g (entries.Did c r) =
    if changes_key k (waiting_in g c) r
    then Some (record { did = i; caller = c; txn = txn_in g c })
    else None
change_at k i g _ = None

-- The last change of the key, whether taken back or not.
abbrev pub last_change : ℕ → List Entry → Option Change
last_change k h = last_answer (λ g e. change_at k (length g) g e) h

-- Whether a reply to the waiting operation makes this operation a change. False if no operation
-- waits.
abbrev pub is_change : Option Op → Option ℕ → Bool
is_change None r = false
is_change (Some op) r = changes op r

-- The fate that an entry gives to a change of the same caller, if it gives one. A commit commits
-- the change, and an abort takes it back. An Undone takes it back if the caller has no newer change
-- that is not taken back (`above` is 0).
abbrev pub decided_by : ℕ → Entry → Option Fate
decided_by above (entries.Committed c p) = Some Committed
decided_by above (entries.Aborted c) = Some Undone
decided_by above (entries.Undone c) = if above == 0 then Some Undone else None
decided_by above _ = None

-- The fate that an entry gives to a change of caller `c`, if it gives one. Only an entry of `c`
-- gives one.
abbrev pub decided : ℕ → ℕ → Entry → Option Fate
decided c above e = if caller_of e == c then decided_by above e else None

-- `waiting_by` is the operation that waits after an entry of the caller. `above_by` is the number
-- of newer changes that are not taken back after the entry.
abbrev pub waiting_by : Option Op → Entry → Option Op
waiting_by waiting (entries.Asked c op) = Some op
waiting_by waiting (entries.Did c r) = None
waiting_by waiting _ = waiting

abbrev pub above_by : Option Op → ℕ → Entry → ℕ
above_by waiting above (entries.Did c r) = if is_change waiting r then above + 1 else above
above_by waiting above (entries.Undone c) = above - 1
above_by waiting above _ = above

-- Like `waiting_by` and `above_by`, but for an entry of any caller.
abbrev pub waiting_after : ℕ → Option Op → Entry → Option Op
waiting_after c waiting e = if caller_of e == c then waiting_by waiting e else waiting

abbrev pub above_after : ℕ → Option Op → ℕ → Entry → ℕ
above_after c waiting above e = if caller_of e == c then above_by waiting above e else above

-- The fate that the entries give to an earlier change of the caller. Before these entries, the
-- caller waits for the operation `waiting` and has `above` newer changes that are not taken back.
abbrev pub fate_from : ℕ → Option Op → ℕ → List Entry → Fate
fate_from c waiting above [] = Open
fate_from c waiting above (e ∷ es) = elim (decided c above e) [
  | Some fate ↦ fate
  | None ↦ fate_from c (waiting_after c waiting e) (above_after c waiting above e) es
]

-- The fate of a change at the end of the history.
abbrev pub fate_of : List Entry → Change → Fate
fate_of h change = fate_from change.caller None 0 (drop (change.did + 1) h)

-- The last change of the key, with its fate.
abbrev pub last_with_fate : ℕ → List Entry → Option (Change × Fate)
last_with_fate k h = option_map (λ change. (change, fate_of h change)) (last_change k h)
