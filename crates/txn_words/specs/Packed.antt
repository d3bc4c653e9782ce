-- Packed fields: the operation, action, entry or step that they stand for. Also, which entries are
-- small enough for 32 bytes.
use Rattle.std.specs.Prelude.{ℕ, Bool, ◌&&◌, Option, Some, None, nat_lt, if◌then◌else◌}
use Rattle.txn_words.specs.declared.action.Action.{Action}
use Rattle.txn_words.specs.declared.action.Action.TheVariants as actions
use Rattle.txn_words.specs.declared.entry.Entry.{Entry}
use Rattle.txn_words.specs.declared.entry.Entry.TheVariants as entries
use Rattle.txn_words.specs.declared.op.Op.{Op}
use Rattle.txn_words.specs.declared.op.Op.TheVariants as ops
use Rattle.txn_words.specs.declared.packed_entry.OpKind.{OpKind}
use Rattle.txn_words.specs.declared.packed_entry.OpKind.TheVariants as op_kinds
use Rattle.txn_words.specs.declared.packed_entry.Kind.{Kind}
use Rattle.txn_words.specs.declared.packed_entry.Kind.TheVariants as kinds
use Rattle.txn_words.specs.declared.packed_action.ActionKind.{ActionKind}
use Rattle.txn_words.specs.declared.packed_action.ActionKind.TheVariants as action_kinds
use Rattle.txn_words.specs.declared.packed_step.StepKind.{StepKind}
use Rattle.txn_words.specs.declared.packed_step.StepKind.TheVariants as step_kinds
use Rattle.txn_words.specs.declared.step.Step.{Step}
use Rattle.txn_words.specs.declared.step.Step.TheVariants as steps
use Rattle.txn_words.specs.Kinds.{caller_of}

-- The operation of this kind with key `k`, value `v` and expected value `e`. A number that this
-- kind of operation does not have is ignored.
abbrev pub packed_op : OpKind → ℕ → ℕ → ℕ → Op
packed_op op_kinds.Put k v e = ops.Put k v
packed_op op_kinds.Take k v e = ops.Take k
packed_op op_kinds.Get k v e = ops.Get k
packed_op op_kinds.PutIf k v e = ops.PutIf k (Some e) v
packed_op op_kinds.PutIfNone k v e = ops.PutIf k None v

-- The action of this kind. `n` is its level, its key or its operation's key.
abbrev pub packed_action : ActionKind → OpKind → ℕ → ℕ → ℕ → Action
packed_action action_kinds.Op op n v e = actions.Op (packed_op op n v e)
packed_action action_kinds.Save op n v e = actions.Save
packed_action action_kinds.Back op n v e = actions.Back n
packed_action action_kinds.Help op n v e = actions.Help n
packed_action action_kinds.Abort op n v e = actions.Abort

-- The entry of this kind by caller `c`. `n` is its operation's key, its reply, its level, or the
-- number of a transaction or a commit. `x` is the holder that the entry names.
abbrev pub packed_entry : Kind → OpKind → ℕ → ℕ → ℕ → ℕ → ℕ → Entry
packed_entry kinds.Began op c n v e x = entries.Began c n
packed_entry kinds.Asked op c n v e x = entries.Asked c (packed_op op n v e)
packed_entry kinds.Did op c n v e x = entries.Did c (Some n)
packed_entry kinds.DidNone op c n v e x = entries.Did c None
packed_entry kinds.Saved op c n v e x = entries.Saved c
packed_entry kinds.Leave op c n v e x = entries.Leave c (Some n)
packed_entry kinds.LeaveToEnd op c n v e x = entries.Leave c None
packed_entry kinds.Undone op c n v e x = entries.Undone c
packed_entry kinds.Returned op c n v e x = entries.Returned c n
packed_entry kinds.Committed op c n v e x = entries.Committed c n
packed_entry kinds.Busy op c n v e x = entries.Busy c (packed_op op n v e) x
packed_entry kinds.Aborted op c n v e x = entries.Aborted c

-- The given holder, or 0 if an entry of this kind names no holder.
abbrev pub holder_part : Kind → ℕ → ℕ
holder_part kinds.Busy x = x
holder_part kind x = 0

-- The holder that an entry names, or 0 if it names none.
abbrev pub holder_in : Entry → ℕ
holder_in (entries.Busy c op x) = x
holder_in e = 0

-- Whether the caller of an entry and the holder that the entry names both fit in 16 bits.
abbrev pub is_small : Entry → Bool
is_small e = nat_lt (caller_of e) 65536 && nat_lt (holder_in e) 65536

-- The entry if it is small, else None.
abbrev pub small_entry : Entry → Option Entry
small_entry e = if is_small e then Some e else None

-- The step of this kind. `c` is its caller, its helper or the size of a `Double`; `n` is its level,
-- its bucket or its operation's key.
abbrev pub packed_step : StepKind → OpKind → ℕ → ℕ → ℕ → ℕ → Step
packed_step step_kinds.Begin op c n v e = steps.Begin c
packed_step step_kinds.Ask op c n v e = steps.Ask c (packed_op op n v e)
packed_step step_kinds.Seek op c n v e = steps.Seek c
packed_step step_kinds.Act op c n v e = steps.Act c
packed_step step_kinds.Save op c n v e = steps.Save c
packed_step step_kinds.Back op c n v e = steps.Back c n
packed_step step_kinds.Commit op c n v e = steps.Commit c
packed_step step_kinds.Abort op c n v e = steps.Abort c
packed_step step_kinds.Sweep op c n v e = steps.Sweep
packed_step step_kinds.InitSeek op c n v e = steps.InitSeek c n
packed_step step_kinds.InitLink op c n v e = steps.InitLink c
packed_step step_kinds.InitStore op c n v e = steps.InitStore c
packed_step step_kinds.Double op c n v e = steps.Double c
