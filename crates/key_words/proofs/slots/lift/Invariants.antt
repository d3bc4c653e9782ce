use Rattle.std.proofs.Common.{◌≡◌, ℕ, ◌<◌, ◌≤◌, vec_len, vec_capacity, length, get_or, Some, None}
use Rattle.key_locks.specs.Rights.{AreAll}
use Rattle.key_words.proofs.slots.lift.Given as goal

abbrev pub invariant-loop-stripe : goal.invariant-loop-stripe
invariant-loop-stripe l = record {
  all : l.stripe-end ≡ vec_len l.initial.slots;
  room : vec_capacity l.rights ≡ vec_capacity l.initial.rights;
  rights : AreAll l.stripe l.rights.items;
  wide : length l.slots.items ≡ vec_len l.initial.slots;
  laid : (k : ℕ) → l.stripe ≤ k → k < vec_len l.initial.slots → get_or l.slots.items k None ≡ Some k;
}
