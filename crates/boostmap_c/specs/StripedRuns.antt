-- PROMISES from-c: TellsRun
-- How a caller runs a whole transaction for C.
use Rattle.std.specs.Prelude.{◌≡◌, ◌⊎◌, ◌<◌, ℕ, Bool, not, nat_eq, List, [], ◌∷◌, length, map, slice_get, Option, Some, None, Result}
use Rattle.txn_words.specs.declared.op.Op.{Op}
use Rattle.txn_words.specs.declared.stop.Stop.{Stop}
use Rattle.striped_map.specs.declared.caller.Caller.{Caller}
use Rattle.striped_map.specs.declared.runs.RunEnd.{RunEnd}
use Rattle.striped_map.specs.Runs.{LieIn, Runs}
use Rattle.boostmap_c.specs.declared.c_entry.CEntry.{CEntry}
use Rattle.boostmap_c.specs.declared.counts.Counts.{Counts}
use Rattle.boostmap_c.specs.declared.member.Member.{Member}
use Rattle.boostmap_c.specs.declared.striped_run.CReply.{CReply}
use Rattle.boostmap_c.specs.Counting.{counted_run}
use Rattle.boostmap_c.specs.Entries.{op_of}
use Rattle.boostmap_c.specs.Replies.{empty_handle, no_entry, short}
use Rattle.boostmap_c.specs.Stops.{status_of_run, word_of_run}

abbrev pub c_reply_of : Option ℕ → CReply
c_reply_of None = record { value = 0; has = 0 }
c_reply_of (Some value) = record { value = value; has = 1 }

-- The operations that entries name. An entry that names none is left out.
abbrev pub with_op : Option Op → List Op → List Op
with_op None ops = ops
with_op (Some op) ops = op ∷ ops

abbrev pub ops_in : List CEntry → List Op
ops_in [] = []
ops_in (entry ∷ entries) = with_op (op_of entry) (ops_in entries)

-- One of the entries names no operation.
abbrev pub IsUnnamed : List CEntry → Type 0
IsUnnamed entries = (i : ℕ) × (entry : CEntry) × (slice_get entries i ≡ Some entry)
    × (op_of entry ≡ None)

-- Each entry names an operation of the run. The counts of the caller are those after its end.
abbrev pub RunsOn : List CEntry → Bool → List (Option ℕ) → Caller → Counts → Result RunEnd Stop
    → Caller → Counts → Type 0
RunsOn entries strict replies a counts answer b after =
    (map Some (ops_in entries) ≡ map op_of entries)
    × Runs strict (ops_in entries) replies a answer b × (after ≡ counted_run counts answer)

-- Either the member's caller ran the transaction (`RunsOn`), or nothing was run, since the array is
-- too short for the replies or an entry names no operation.
abbrev pub TellsRun : List CEntry → ℕ → Option Member → ℕ → List CReply → List CReply → ℕ → ℕ → ℕ
    → ℕ → Option Member → Type 0
TellsRun entries strict (Some old) status before after done_before done was word (Some new) =
    (new.group ≡ old.group)
    × (((replies : List (Option ℕ)) × (answer : Result RunEnd Stop)
    × RunsOn entries (not (nat_eq strict 0)) replies old.caller old.counts answer new.caller
    new.counts × (status ≡ status_of_run answer) × (word ≡ word_of_run was answer)
    × LieIn c_reply_of replies before after done)
    ⊎ ((((status ≡ short) × (length before < length entries))
    ⊎ ((status ≡ no_entry) × IsUnnamed entries))
    × (new.caller ≡ old.caller) × (new.counts ≡ old.counts) × (after ≡ before) × (done ≡ 0)
    × (word ≡ was)))
TellsRun entries strict None status before after done_before done was word None =
    (status ≡ empty_handle) × (after ≡ before) × (done ≡ done_before) × (word ≡ was)
TellsRun entries strict old status before after done_before done was word new = ⊥
