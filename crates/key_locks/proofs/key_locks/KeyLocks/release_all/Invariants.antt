use Rattle.std.proofs.Common.{◌≡◌, ℕ, length, get_or, None}
use Rattle.std.specs.List.{count_by}
use Rattle.key_locks.specs.Locks.{is_caller, without_caller}
use Rattle.key_locks.specs.Chains.{AreChained}
use Rattle.key_locks.proofs.key_locks.KeyLocks.release_all.Given as goal

-- After each round, freeing all stripes of the caller (`without_caller`) gives the same holders as
-- freeing them before the loop.
abbrev pub invariant-loop-stripe : goal.invariant-loop-stripe
invariant-loop-stripe l = record {
  are_chained : AreChained l.self-inside.holders.items l.self-inside.older.items l.self-inside.newest.items;
  as_many : length l.self-inside.holders.items ≡ length l.initial.self-inside.holders.items;
  each : (stripe : ℕ) → without_caller l.caller (get_or l.self-inside.holders.items stripe None) ≡ without_caller l.caller (get_or l.initial.self-inside.holders.items stripe None);
}

-- The number of stripes that the caller still holds.
abbrev pub decreases-loop-stripe : goal.decreases-loop-stripe
decreases-loop-stripe l = count_by (is_caller l.caller) l.self-inside.holders.items
