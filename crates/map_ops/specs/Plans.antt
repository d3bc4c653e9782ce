-- Plans: operations with their spares.
use Rattle.std.specs.Prelude.{Some, None}
use Rattle.txn_words.specs.declared.op.Op.TheVariants as ops
use Rattle.map_ops.specs.declared.pending.Plan.{Plan}
use Rattle.map_ops.specs.declared.pending.Plan.TheVariants.{Put, Take, Get, PutIf}
use Rattle.map_ops.specs.Jobs.{PendingAt}

-- A plan as contracts see it.
abbrev pub pending_of : Plan → PendingAt
pending_of (Put k v spare) = record { op = ops.Put k v; spare = Some spare }
pending_of (Take k spare) = record { op = ops.Take k; spare = Some spare }
pending_of (PutIf k expected v spare) = record { op = ops.PutIf k expected v; spare = Some spare }
pending_of (Get k) = record { op = ops.Get k; spare = None }
