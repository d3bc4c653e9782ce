use Rattle.std.proofs.Common.{◌≡◌, vec_len}
use Rattle.key_words.proofs.slots.empty_slots.Given as goal

abbrev pub invariant-loop : goal.invariant-loop
invariant-loop l = vec_len l.slots ≡ l.counter
