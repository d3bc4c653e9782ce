-- The entries of each addition to the history, and the state after it.
use Rattle.std.specs.Prelude.{ℕ, Option, List, [], ◌∷◌, None, Some, take, drop, length, slice_index, ◌-◌}
use Rattle.txn_words.specs.declared.entry.Entry.{Entry}
use Rattle.txn_words.specs.declared.entry.Entry.TheVariants.{Asked, Did, Saved, Leave, Returned, Busy, Aborted}
use Rattle.txn_trace.specs.Log.{log_of, rolled_back}
use Rattle.txn_trace.specs.Now.{now}
use Rattle.striped_map.specs.declared.view.View.{View}
use Rattle.striped_map.specs.declared.addition.Addition.{Addition}
use Rattle.striped_map.specs.declared.addition.Addition.TheVariants.{Note, Save, Back, Abort, Yield}
use Rattle.striped_map.specs.Steps.{StateAfter, StepEffect, added, counted, at_end, noting, saving, returning, stance_of, undoing}

-- The changes that the caller with this view can take back, the newest first.
abbrev pub due : View → List (ℕ × Option ℕ)
due v = log_of v.number v.seen

-- The changes of the caller since a level's savepoint.
abbrev pub above : ℕ → View → List (ℕ × Option ℕ)
above level v = take (length (due v) - slice_index (stance_of v).kept level) (due v)

-- The entries of an addition.
abbrev pub entries_of : View → Addition → List Entry
entries_of v (Note op reply) = Asked v.number op ∷ Did v.number reply ∷ []
entries_of v Save = Saved v.number ∷ []
entries_of v (Back level count) =
    Leave v.number (Some level)
    ∷ undoing v.number (take count (due v)) (Returned v.number level)
entries_of v Abort = Leave v.number None ∷ undoing v.number (due v) (Aborted v.number)
entries_of v (Yield op holder) =
    Busy v.number op holder ∷ undoing v.number (due v) (Aborted v.number)

-- The state after an addition.
abbrev pub left_of : View → Addition → StateAfter
left_of v (Note op reply) = noting v (stance_of v) op reply
left_of v Save = saving v (stance_of v)
left_of v (Back level count) =
    returning v (stance_of v) level (take count (due v)) (drop count (due v))
left_of v Abort = at_end (rolled_back (now v.seen) (due v))
left_of v (Yield op holder) = at_end (rolled_back (now v.seen) (due v))

abbrev pub appended : Addition → StepEffect
appended what st m found n = added (entries_of m.0 what) (left_of m.0 what) st m found n

abbrev pub appended_counted : Addition → StepEffect
appended_counted what st m found n =
    counted (entries_of m.0 what) (left_of m.0 what) st m found n
