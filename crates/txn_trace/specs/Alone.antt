-- PROMISES each-transaction-as-if-alone: alone
-- A transaction that runs alone: the maps that it goes through, if its replies are right.
use Rattle.std.specs.Prelude.{ℕ, ◌+◌, Option, Some, None, List, [], ◌∷◌, ◌++◌, length, take, nat_eq, slice_get, if◌then◌else◌}
use Rattle.std.specs.Option.{option_eq, option_and_then}
use Rattle.std.specs.List.{fold}
use Rattle.txn_words.specs.declared.op.Op.{Op}
use Rattle.txn_words.specs.declared.entry.Entry.{Entry}
use Rattle.txn_words.specs.declared.entry.Entry.TheVariants.{Asked, Did, Saved, Undone, Returned}
use Rattle.txn_words.specs.Map.{Map, reply_of, after, is_change}

-- A run has its last map, its earlier maps (newest first), and the operation that waits for its
-- reply, if there is one. It also has a note for each level: the number of maps that the run had
-- when the level was set. The note of level 0 is 1.
pub record AloneRun : Type 0 where
  pub last : Map
  pub earlier : List Map
  pub pending : Option Op
  pub notes : List ℕ

-- The run that has only this map.
abbrev pub start : Map → AloneRun
start m = record { last = m; earlier = []; pending = None; notes = 1 ∷ [] }

-- How many maps a run has.
abbrev pub number_of_maps : AloneRun → ℕ
number_of_maps run = length run.earlier + 1

-- The run after an operation. If the operation is a change, the map after the operation becomes the
-- last map, and the old last map is added to the earlier maps. Otherwise the run is unchanged.
abbrev pub with_op : AloneRun → Op → AloneRun
with_op run op =
    if is_change run.last op
    then record run { last = after run.last op; earlier = run.last ∷ run.earlier }
    else run

-- The run after a `Did` entry. An operation must be waiting, and the reply must be the one that the
-- last map gives to this operation.
abbrev pub act_did : AloneRun → Option Op → Option ℕ → Option AloneRun
act_did run None r = None
act_did run (Some op) r =
    if option_eq nat_eq r (reply_of run.last op)
    then Some (record (with_op run op) { pending = None })
    else None

-- The run after an `Undone` entry, which drops the last map. If the run has only its first map, the
-- entry is not allowed.
abbrev pub act_undone : AloneRun → List Map → Option AloneRun
act_undone run [] = None
act_undone run (m ∷ ms) = Some (record run { last = m; earlier = ms })

-- The run after the entry `Returned` with the level `n`. The run must have as many maps as the note
-- of level `n` says. The notes of later levels are dropped.
abbrev pub act_returned : AloneRun → ℕ → Option AloneRun
act_returned run n =
    if option_eq nat_eq (slice_get run.notes n) (Some (number_of_maps run))
    then Some (record run { notes = take (n + 1) run.notes })
    else None

-- The run after an entry, or None if the run does not allow the entry.
abbrev pub act : AloneRun → Entry → Option AloneRun
act run (Asked c op) = Some (record run { pending = Some op })
act run (Did c r) = act_did run run.pending r
act run (Undone c) = act_undone run run.earlier
act run (Saved c) = Some (record run { notes = run.notes ++ number_of_maps run ∷ [] })
act run (Returned c n) = act_returned run n
act run _ = Some run

-- The run that starts with the map `m` and goes through these entries, or None if an entry is not
-- allowed.
abbrev pub alone : Map → List Entry → Option AloneRun
alone m es = fold (λ run e. option_and_then (λ r. act r e) run) (Some (start m)) es

-- The last map of a run, or the map `m` if the run is None.
abbrev pub last_map : Map → Option AloneRun → Map
last_map m None = m
last_map m (Some run) = run.last

-- The map that a list of entries leaves if it runs alone from the map `m`.
abbrev pub map_after : Map → List Entry → Map
map_after m es = last_map m (alone m es)
