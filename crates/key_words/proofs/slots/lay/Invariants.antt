use Rattle.std.proofs.Common.{◌≡◌, ℕ, ◌<◌, ◌≤◌, vec_len, vec_capacity, length, get_or, Some, None}
use Rattle.key_locks.specs.Rights.{AreAll}
use Rattle.key_words.proofs.slots.lay.Given as goal

abbrev pub invariant-loop-right : goal.invariant-loop-right
invariant-loop-right l = record {
  fewer : vec_len l.rights ≤ vec_len l.initial.rights;
  room : vec_capacity l.rights ≡ vec_capacity l.initial.rights;
  rights : AreAll (vec_len l.rights) l.rights.items;
  wide : length l.slots.items ≡ vec_len l.initial.rights;
  laid : (k : ℕ) → vec_len l.rights ≤ k → k < vec_len l.initial.rights → get_or l.slots.items k None ≡ Some k;
}

abbrev pub decreases-loop-right : goal.decreases-loop-right
decreases-loop-right l = vec_len l.rights
